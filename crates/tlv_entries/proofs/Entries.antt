-- A list of TLVs as entries one after the other: the rule of a list takes exactly the bytes of such a list.
-- Assumes nothing.
use Rattle.std.specs.Prelude.{ℕ, zero, suc, ◌+◌, ◌%◌, ◌≤◌, ◌<◌, ◌≡◌, refl, true, Result, Ok, Err}
use Rattle.std.proofs.Common.{zero-le, sym, ◌∙◌, subst, not-suc-le-zero, arith, length-append, length-drop, take-append-drop, take_at, drop-drop, get_or-drop, length-take-le, eqb-true, eq-eqb}
use Rattle.std.proofs.Math.Path.{ap, ap₂}
use mathlib.Core.List.{List, [], ◌∷◌, ◌++◌, append_assoc}
use Rattle.std.proofs.Math.ListN.{length, take, drop}
use Rattle.std.proofs.Math.Seq.{drop_at}
use Rattle.wire.specs.Be.{Bytes, be_at, bytes_of}
use Rattle.wire.proofs.BeLaws.{be_at-bound, length-bytes_of, be-bytes, bytes-be}
use Rattle.tlv.specs.declared.TlvCursor.{TlvCursor}
use Rattle.tlv.specs.declared.TlvRead.{TlvRead}
use Rattle.tlv.specs.declared.TlvRead.TheVariants.{Entry, End}
use Rattle.refused.specs.declared.Refusal.{Refusal}
use Rattle.tlv.specs.Tlv.{Tlv, least_left, entry_at, read_at, check_read, list_check, check_list, whole_entries}
use Rattle.tlv_builder.specs.Builder.{entry_bytes, list_bytes}
use Rattle.tlv_builder.proofs.BuilderLaws.{length-entry_bytes, list-more}
use Rattle.tlv.proofs.Laws.{Read, read_none, read-entry, entry_read, none_read, refusal-read, unrolled}
use Rattle.tlv_entries.specs.Entries.{Even, AllEven, LastFull, Remain, Whole, Entries, Taken}

-- ---- more than 4 bytes remain at each entry exactly where the last is not empty

length-list : (e : Tlv) (es : List Tlv) → length (list_bytes (e ∷ es)) ≡ length e.value + 4 + length (list_bytes es)
unfolding list_bytes
length-list e es = simp (length-append, length-entry_bytes)

pub full-remain : (es : List Tlv) → LastFull es → Remain least_left es
full-remain [] h = tt
full-remain (e ∷ []) h = (omega (arith, length-list e []), tt)
full-remain (e ∷ f ∷ es) h = (omega (arith, length-list e (f ∷ es), length-list f es), full-remain (f ∷ es) h)

pub remain-full : (es : List Tlv) → Remain least_left es → LastFull es
unfolding list_bytes
remain-full [] h = tt
remain-full (e ∷ []) h = omega (arith, h.0, length-list e [])
remain-full (e ∷ f ∷ es) h = remain-full (f ∷ es) h.1

-- 4 bytes remain at each
pub four_remain : (es : List Tlv) → Remain 4 es
four_remain [] = tt
four_remain (e ∷ es) = (omega (arith, length-list e es), four_remain es)

-- ---- an entry is read where its bytes stand

-- after the bytes p, and before the rest
module _ (p : List ℕ) (e : Tlv) (rest : List ℕ) (v : Even e) where
  abbrev s : List ℕ
  s = p ++ (entry_bytes e.type e.value ++ rest)

  type-read : be_at s (length p) 2 ≡ e.type
  unfolding entry_bytes
  type-read =
      let b = bytes_of 2 (length e.value) in
      let same : s ≡ p ++ bytes_of 2 e.type ++ (b ++ (e.value ++ rest)) = simp append_assoc in
      let small : e.type % 65536 ≡ e.type = omega (arith, v.type) in
      rw same (be-bytes 2 e.type p (b ++ (e.value ++ rest)) ∙ small)

  size-read : be_at s (length p + 2) 2 ≡ length e.value
  unfolding entry_bytes
  size-read =
      let t = p ++ bytes_of 2 e.type in
      let b = bytes_of 2 (length e.value) in
      let same : s ≡ t ++ b ++ (e.value ++ rest) = simp append_assoc in
      let here : length t ≡ length p + 2 = simp (length-append, length-bytes_of) in
      let small : length e.value % 65536 ≡ length e.value = omega (arith, v.fits) in
      rw same
      (subst (λ (k : ℕ). be_at (t ++ b ++ (e.value ++ rest)) k 2 ≡ length e.value) here
      (be-bytes 2 (length e.value) t (e.value ++ rest) ∙ small))

  long : length s ≡ length p + (length e.value + 4 + length rest)
  long = simp (length-append, length-entry_bytes)

  read-there : (least : ℕ) → least ≤ length e.value + 4 + length rest
      → entry_at least s (length p) ≡ Ok (Entry e.type (length p + 4) (length e.value) (record { at = length p + 4 + length e.value }))
  read-there least h =
      sym (read-entry least s (length p) (omega (arith, long)) (omega (arith, long)) (ap (λ (n : ℕ). n % 2) size-read ∙ v.even) (omega (arith, long, size-read)))
      ∙ (λ i. Ok (Entry (type-read i) (length p + 4) (size-read i) (record { at = length p + 4 + size-read i })))

  -- its value stands after the four bytes
  value_there : take (length e.value) (drop (length p + 4) s) ≡ e.value
  unfolding entry_bytes
  value_there =
      let t = p ++ bytes_of 2 e.type ++ bytes_of 2 (length e.value) in
      let same : s ≡ t ++ (e.value ++ rest) = simp append_assoc in
      let here : length t ≡ length p + 4 = simp (length-append, length-bytes_of) (omega arith) in
      rw (same, drop_at t (e.value ++ rest) (length p + 4) here) (take_at e.value rest (length e.value) refl)

  -- and what follows it
  rest-there : drop (length p + 4 + length e.value) s ≡ rest
  rest-there =
      let t = p ++ entry_bytes e.type e.value in
      let same : s ≡ t ++ rest = simp append_assoc in
      rw same (drop_at t rest (length p + 4 + length e.value) (simp (length-append, length-entry_bytes) (omega arith)))

-- of a list that a reader takes, the cursor shows each entry at its place, the next place being that of the next entry
pub shown : (before : List Tlv) (e : Tlv) (after : List Tlv) → Even e → LastFull (e ∷ after)
    → (read_at (list_bytes before ++ list_bytes (e ∷ after)) (length (list_bytes before))
    ≡ Ok (Entry e.type (length (list_bytes before) + 4) (length e.value) (record { at = length (list_bytes (before ++ (e ∷ []))) })))
    × (take (length e.value) (drop (length (list_bytes before) + 4) (list_bytes before ++ list_bytes (e ∷ after))) ≡ e.value)
unfolding list_bytes
shown before e after v f =
    let p = list_bytes before in
    let rest = list_bytes after in
    let least = (full-remain (e ∷ after) f).0 in
    let next : length p + 4 + length e.value ≡ length (list_bytes (before ++ (e ∷ []))) =
    rw (list-more before e, length-append, length-entry_bytes) (omega arith) in (
      read-there p e rest v least_left (omega (arith, least, length-list e after))
          ∙ ap (λ (n : ℕ). Ok (Entry e.type (length p + 4) (length e.value) (record { at = n }))) next,
      value_there p e rest v,
    )

-- ---- the bytes of entries pass

pub entries-pass : (least : ℕ) (es : List Tlv) → AllEven es → Remain least es → list_check least (list_bytes es) ≡ 0
unfolding list_bytes
entries-pass least [] v h = unrolled least [] ∙ ap (check_read (list_check least) []) (sym (read_none least [] 0 zero-le))
entries-pass least (e ∷ es) v h =
    let rest = list_bytes es in
    let s = entry_bytes e.type e.value ++ rest in
    unrolled least s
    ∙ ap (check_read (list_check least) s) (read-there [] e rest v.0 least (omega (arith, h.0, length-list e es)))
    ∙ ap (list_check least) (rest-there [] e rest v.0)
    ∙ entries-pass least es v.1 h.1

-- bytes cut in four: two, two, some, and the rest
cut : (s : List ℕ) (l : ℕ) → take 2 (drop 0 s) ++ take 2 (drop 2 s) ++ take l (drop 4 s) ++ drop (4 + l) s ≡ s
cut s l =
    let third : take l (drop 4 s) ++ drop (4 + l) s ≡ drop 4 s = rw (← drop-drop l 4 s) (take-append-drop l (drop 4 s)) in
    let second : take 2 (drop 2 s) ++ drop 4 s ≡ drop 2 s = rw (← drop-drop 2 2 s) (take-append-drop 2 (drop 2 s)) in
    append_assoc (take 2 s ++ take 2 (drop 2 s)) (take l (drop 4 s)) (drop (4 + l) s)
    ∙ ap (λ (r : List ℕ). take 2 s ++ take 2 (drop 2 s) ++ r) third
    ∙ append_assoc (take 2 s) (take 2 (drop 2 s)) (drop 4 s)
    ∙ ap (λ (r : List ℕ). take 2 s ++ r) second
    ∙ take-append-drop 2 s

no_bytes : (s : List ℕ) → length s ≤ 0 → [] ≡ s
no_bytes [] h = refl
no_bytes (x ∷ s) h = absurd (not-suc-le-zero h)

-- of no bytes there are none
nothing : (least : ℕ) → Entries least []
unfolding list_bytes
nothing least = record { entries = record { list = []; bytes = refl; even = tt }; remain = tt }

-- an entry that was read at the start, and the entries of the rest
module _ (least : ℕ) (s : List ℕ) (b : Bytes s) (t start l : ℕ) (next : TlvCursor) (r : Read least s 0 t start l next) (es : Entries least (drop next.at s)) where
  abbrev v : List ℕ
  v = take l (drop 4 s)

  v-length : length v ≡ l
  v-length = length-take-le l (drop 4 s) (omega (arith, length-drop 4 s, r.within))

  abbrev all : List Tlv
  all = record { type = t; value = v } ∷ es.entries.list

  all-bytes : list_bytes all ≡ s
  unfolding list_bytes entry_bytes
  all-bytes =
      let first : bytes_of 2 t ≡ take 2 (drop 0 s) = ap (bytes_of 2) r.type ∙ bytes-be s 0 2 b (omega (arith, r.within)) in
      let second : bytes_of 2 (length v) ≡ take 2 (drop 2 s) = ap (bytes_of 2) (v-length ∙ r.size) ∙ bytes-be s 2 2 b (omega (arith, r.within)) in
      let rest : list_bytes es.entries.list ≡ drop (4 + l) s = es.entries.bytes ∙ ap (λ (k : ℕ). drop k s) r.after in
      ap₂ (λ (x y : List ℕ). x ++ y ++ v ++ list_bytes es.entries.list) first second
      ∙ ap (λ (z : List ℕ). take 2 (drop 0 s) ++ take 2 (drop 2 s) ++ v ++ z) rest
      ∙ cut s l

  more : Entries least s
  more =
      record {
        entries = record {
          list = all;
          bytes = all-bytes;
          even = (
            record {
              type = omega (arith, r.type, be_at-bound s 0 2 b);
              even = ap (λ (n : ℕ). n % 2) v-length ∙ r.even;
              fits = omega (arith, v-length, r.size, be_at-bound s 2 2 b);
            },
            es.entries.even,
          );
        };
        remain = (omega (arith, ap length all-bytes, r.enough), es.remain);
      }

pass_in : (least k : ℕ) (s : List ℕ) → length s < k → Bytes s → list_check least s ≡ 0 → Entries least s
pass_in least zero s h b e = absurd (not-suc-le-zero h)
pass_in least (suc k) s h b e = by (pass_in least k) (entry_at least s 0) refl (sym (unrolled least s) ∙ e)
  where
    by : ((m : List ℕ) → length m < k → Bytes m → list_check least m ≡ 0 → Entries least m) → (r : Result TlvRead Refusal) → entry_at least s 0 ≡ r
        → check_read (list_check least) s r ≡ 0 → Entries least s
    by ih (Ok End) q z = subst (Entries least) (no_bytes s (none_read least s 0 q)) (nothing least)
    by ih (Err r) q z = absurd (omega (arith, refusal-read least s 0 r q, z))
    by ih (Ok (Entry t start l next)) q z =
        let r = entry_read least s 0 t start l next q in
        more least s b t start l next r
        (ih (drop next.at s) (omega (arith, length-drop next.at s, r.after, r.within)) (λ i. rw get_or-drop (b (next.at + i))) z)

pub pass-entries : (least : ℕ) (s : List ℕ) → Bytes s → list_check least s ≡ 0 → Entries least s
pass-entries least s b e = pass_in least (suc (length s)) s (omega arith) b e

pub taken : (s : List ℕ) → Taken s → check_list s ≡ 0
taken s t =
    let w = t.entries in
    subst (λ (l : List ℕ). check_list l ≡ 0) w.bytes (entries-pass least_left w.list w.even (full-remain w.list t.full))

pub taken_back : (s : List ℕ) → Bytes s → check_list s ≡ 0 → Taken s
taken_back s b e =
    let r = pass-entries least_left s b e in
    record { entries = r.entries; full = remain-full r.entries.list r.remain }

-- a writer takes exactly the bytes of even entries
pub whole : (s : List ℕ) → Whole s → whole_entries s ≡ true
whole s w =
    subst (λ (l : List ℕ). whole_entries l ≡ true) w.bytes (eq-eqb (list_check 4 (list_bytes w.list)) 0 (entries-pass 4 w.list w.even (four_remain w.list)))

pub whole_back : (s : List ℕ) → Bytes s → whole_entries s ≡ true → Whole s
whole_back s b e = (pass-entries 4 s b (eqb-true (list_check 4 s) 0 e)).entries
