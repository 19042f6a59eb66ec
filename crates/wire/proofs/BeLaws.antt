-- The laws of big-endian numbers, each stated once over the width n.
-- Assumes nothing.
use Rattle.std.specs.Prelude.{ℕ, zero, suc, ◌+◌, ◌*◌, ◌-◌, ◌/◌, ◌%◌, ◌^◌, ◌≤◌, ◌<◌, ◌≡◌, refl, List, [], ◌∷◌, ◌++◌, length, get_or, set, take, drop}
use Rattle.std.proofs.Common.{sym, ap, ap₂, ◌∙◌, subst, append_assoc, append-nil, not-suc-le-zero, add_assoc, lt_of_lt_of_le, pow-suc, add-zero, zero-add, le_refl, add-one, arith, lit<, length-append, length-drop, length-set, take-append-drop, take-add, take-take, length-take-le, take-suc, get_or-drop, take_at, drop_at, drop-set-lt, get_or-take, get_or-append-add, drop-cons, get_or-set_same, drop-drop}
use Rattle.std.proofs.Math.Nat.{pow-le-pow_right, mod-one, one-le-pow}
use Rattle.std.proofs.Math.Arith.{digits_lt, digits_div, digits_mod, mod-mul}
use Rattle.std.proofs.Math.ListN.{get_or-append}
use Rattle.std.proofs.Math.Seq.{take-length, drop-append-add}
use Rattle.std.proofs.lemmas.List.{take-append-le, drop-append-le, get_or_at, take-set-le}
use Rattle.wire.specs.Be.{Bytes, be_at, bytes_of, put}

-- ---- a number of n bytes

pub be_at-bound : (s : List ℕ) (at n : ℕ) → Bytes s → be_at s at n < 256 ^ n
unfolding be_at
be_at-bound s at zero h = omega arith
be_at-bound s at (suc n) h = rw pow-suc (digits_lt (be_at-bound s at n h) (h (at + n)))

-- one byte more: the number of i bytes, times 256, plus a byte
pub more : (i : ℕ) {x b : ℕ} → x < 256 ^ i → b < 256 → x * 256 + b < 256 ^ (i + 1)
more i hx hb = rw (add-one, pow-suc) (digits_lt hx hb)

-- and at most 8 of them fit 64 bits
pub more-fits : (i : ℕ) {x b : ℕ} → i < 8 → x < 256 ^ i → b < 256 → x * 256 + b < 2 ^ 64
more-fits i h hx hb = lt_of_lt_of_le (more i hx hb) (pow-le-pow_right {n = 256} (omega arith) {i = i + 1} {j = 8} (omega arith))

pub length-bytes_of : (n x : ℕ) → length (bytes_of n x) ≡ n
unfolding bytes_of
length-bytes_of zero x = refl
length-bytes_of (suc n) x = simp (length-append, length-bytes_of n (x / 256), add-one)

-- what was written is read back, wherever it stands
pub be-bytes : (n x : ℕ) (p q : List ℕ) → be_at (p ++ bytes_of n x ++ q) (length p) n ≡ x % 256 ^ n
unfolding be_at bytes_of
be-bytes zero x p q = sym (mod-one x)
be-bytes (suc n) x p q =
    let b : List ℕ = bytes_of n (x / 256) in
    let pos : zero < 256 ^ n = one-le-pow n 256 (omega arith) in
    let here : length (p ++ b) ≡ length p + n = simp (length-append, length-bytes_of) in
    let e : p ++ (b ++ (x % 256 ∷ [])) ++ q ≡ p ++ b ++ (x % 256 ∷ q) = simp append_assoc in
    ap (λ (l : List ℕ). be_at l (length p) n * 256 + get_or l (length p + n) 0) e
    ∙ rw (be-bytes n (x / 256) p (x % 256 ∷ q), get_or_at (p ++ b) (x % 256) q 0 (length p + n) here, pow-suc)
    (sym (mod-mul x pos (omega arith)))

-- the bytes of the number that was read are those that stand there
pub bytes-be : (s : List ℕ) (at n : ℕ) → Bytes s → at + n ≤ length s → bytes_of n (be_at s at n) ≡ take n (drop at s)
unfolding be_at bytes_of
bytes-be s at zero h le = refl
bytes-be s at (suc n) h le =
    rw (digits_div (be_at s at n) (h (at + n)), digits_mod (be_at s at n) (h (at + n)), bytes-be s at n h (omega arith))
    (rw (take-suc (drop at s) n 0 (simp length-drop (omega arith)), get_or-drop))

-- ---- a run of bytes put into a list

pub length-put : (s : List ℕ) (at : ℕ) (bs : List ℕ) → at + length bs ≤ length s → length (put s at bs) ≡ length s
unfolding put
length-put s at bs le = simp (length-append, length-drop, length-take-le at s (omega arith)) (omega arith)

pub put-nil : (s : List ℕ) (at : ℕ) → put s at [] ≡ s
unfolding put
put-nil s at = rw (append-nil, add-zero) (take-append-drop at s)

-- the last byte first
pub put_last : (s : List ℕ) (at : ℕ) (bs : List ℕ) (b : ℕ) → at + length bs < length s
    → put (set s (at + length bs) b) at bs ≡ put s at (bs ++ (b ∷ []))
unfolding put
put_last s at bs b lt =
    let k = at + length bs in
    let e : at + length (bs ++ (b ∷ [])) ≡ suc k = simp length-append (omega arith) in
    let here : k < length (set s k b) = simp length-set lt in
    rw (e, take-set-le at s k b (omega arith), drop-cons (set s k b) k 0 here, get_or-set_same s k b 0 lt, drop-set-lt (suc k) s k b (le_refl _))
    (simp append_assoc)

-- of a number: its lowest byte first, then the others
pub put_lowest : (s : List ℕ) (at n x : ℕ) → 0 < n → at + n ≤ length s
    → put (set s (at + (n - 1)) (x % 256)) at (bytes_of (n - 1) (x / 256)) ≡ put s at (bytes_of n x)
unfolding bytes_of
put_lowest s at zero x pos le = absurd (not-suc-le-zero pos)
put_lowest s at (suc m) x pos le =
    let b = bytes_of m (x / 256) in
    let e : suc m - 1 ≡ m = omega arith in
    let len : length b ≡ m = length-bytes_of m (x / 256) in
    rw e (subst (λ (k : ℕ). put (set s (at + k) (x % 256)) at b ≡ put s at (b ++ (x % 256 ∷ []))) len (put_last s at b (x % 256) (rw len (omega arith))))

-- one run after the other
pub put-put : (s : List ℕ) (at k : ℕ) (bs cs : List ℕ) → k ≡ at + length bs → k + length cs ≤ length s
    → put (put s at bs) k cs ≡ put s at (bs ++ cs)
unfolding put
put-put s at k bs cs e le =
    let p = take at s ++ bs in
    let here : length p ≡ k = simp (length-append, length-take-le at s (omega arith)) (sym e) in
    let past : drop (k + length cs) (p ++ drop (at + length bs) s) ≡ drop (at + length (bs ++ cs)) s =
    rw (← here, drop-append-add, drop-drop, length-append, add_assoc) in
    rw (take_at p (drop (at + length bs) s) k here, past) (simp append_assoc)

-- a run over a run of the same length
pub put-over : (s : List ℕ) (at : ℕ) (bs cs : List ℕ) → length cs ≡ length bs → at + length bs ≤ length s
    → put (put s at bs) at cs ≡ put s at cs
unfolding put
put-over s at bs cs e le =
    let here : length (take at s) ≡ at = length-take-le at s (omega arith) in
    let front : take at (take at s ++ bs ++ drop (at + length bs) s) ≡ take at s =
    rw append_assoc (take_at (take at s) (bs ++ drop (at + length bs) s) at here) in
    let back : drop (at + length cs) (take at s ++ bs ++ drop (at + length bs) s) ≡ drop (at + length cs) s =
    rw e (drop_at (take at s ++ bs) (drop (at + length bs) s) (at + length bs) (simp (length-append, here))) in
    rw (front, back)

-- a part is the end of a front
cut-part : (s : List ℕ) (at n : ℕ) → at ≤ length s → take n (drop at s) ≡ drop at (take (at + n) s)
cut-part s at n le = sym (ap (drop at) (take-add at n s) ∙ drop_at (take at s) (take n (drop at s)) at (length-take-le at s le))

-- the run stands there
pub part-put : (s : List ℕ) (at : ℕ) (bs : List ℕ) → at ≤ length s → take (length bs) (drop at (put s at bs)) ≡ bs
unfolding put
part-put s at bs le =
    let rest = drop (at + length bs) s in
    let past : drop at (take at s ++ bs ++ rest) ≡ bs ++ rest = rw append_assoc (drop_at (take at s) (bs ++ rest) at (length-take-le at s le)) in
    rw past (take_at bs rest (length bs) refl)

-- a part before it is as it was
pub part-put-before : (s : List ℕ) (at n k : ℕ) (bs : List ℕ) → at + n ≤ k → k ≤ length s → take n (drop at (put s k bs)) ≡ take n (drop at s)
unfolding put
part-put-before s at n k bs le lk =
    let out = take k s ++ bs ++ drop (k + length bs) s in
    let front : take (at + n) out ≡ take (at + n) s =
    rw (append_assoc, take-append-le (at + n) (take k s) (bs ++ drop (k + length bs) s) (rw (length-take-le k s lk) le)) (take-take (at + n) k s le) in
    let long : at ≤ length out = simp (length-append, length-take-le k s lk) (omega arith) in
    cut-part out at n long ∙ ap (drop at) front ∙ sym (cut-part s at n (omega arith))

-- a byte outside the run is as it was
pub get_or-put_before : (s : List ℕ) (at : ℕ) (bs : List ℕ) (i : ℕ) → i < at → at ≤ length s → get_or (put s at bs) i 0 ≡ get_or s i 0
unfolding put
get_or-put_before s at bs i h le =
    rw (append_assoc, get_or-append (take at s) (bs ++ drop (at + length bs) s) 0 i (rw (length-take-le at s le) h)) (get_or-take at s i 0 h)

pub get_or-put_after : (s : List ℕ) (at : ℕ) (bs : List ℕ) (i : ℕ) → at + length bs ≤ i → at + length bs ≤ length s → get_or (put s at bs) i 0 ≡ get_or s i 0
unfolding put
get_or-put_after s at bs i h le =
    let p = take at s ++ bs in
    let here : length p ≡ at + length bs = simp (length-append, length-take-le at s (omega arith)) in
    let e : i ≡ length p + (i - (at + length bs)) = omega arith in
    rw (e, get_or-append-add p (drop (at + length bs) s) (i - (at + length bs)) 0, get_or-drop, here)

-- and so is a number
pub be_at-same : (s t : List ℕ) (at n : ℕ) → ((i : ℕ) → at ≤ i → i < at + n → get_or s i 0 ≡ get_or t i 0) → be_at s at n ≡ be_at t at n
unfolding be_at
be_at-same s t at zero h = refl
be_at-same s t at (suc n) h =
    ap₂ (λ (x y : ℕ). x * 256 + y) (be_at-same s t at n (λ i lo hi. h i lo (omega arith))) (h (at + n) (omega arith) (omega arith))

-- a number that was written is read back
pub be-put : (s : List ℕ) (at n x : ℕ) → at ≤ length s → be_at (put s at (bytes_of n x)) at n ≡ x % 256 ^ n
unfolding put
be-put s at n x le =
    subst (λ (k : ℕ). be_at (take at s ++ bytes_of n x ++ drop (at + length (bytes_of n x)) s) k n ≡ x % 256 ^ n) (length-take-le at s le)
    (be-bytes n x (take at s) (drop (at + length (bytes_of n x)) s))

-- a number that was read, written where it stood, changes nothing
pub put-be : (s : List ℕ) (at n : ℕ) → Bytes s → at + n ≤ length s → put s at (bytes_of n (be_at s at n)) ≡ s
unfolding put
put-be s at n h le =
    rw (length-bytes_of, bytes-be s at n h le, ← drop-drop n at s, append_assoc, take-append-drop n (drop at s))
    (take-append-drop at s)

-- ---- all are bytes

pub bytes-append : (p q : List ℕ) → Bytes p → Bytes q → Bytes (p ++ q)
bytes-append [] q hp hq i = hq i
bytes-append (x ∷ p) q hp hq zero = hp 0
bytes-append (x ∷ p) q hp hq (suc i) = bytes-append p q (λ j. hp (suc j)) hq i

bytes_take : (n : ℕ) (s : List ℕ) → Bytes s → Bytes (take n s)
bytes_take zero s h i = lit< tt
bytes_take (suc n) [] h i = lit< tt
bytes_take (suc n) (x ∷ s) h zero = h 0
bytes_take (suc n) (x ∷ s) h (suc i) = bytes_take n s (λ j. h (suc j)) i

pub bytes-bytes_of : (n x : ℕ) → Bytes (bytes_of n x)
unfolding bytes_of
bytes-bytes_of zero x = λ i. lit< tt
bytes-bytes_of (suc n) x = bytes-append (bytes_of n (x / 256)) (x % 256 ∷ []) (bytes-bytes_of n (x / 256)) (one (x % 256) (omega arith))
  where
    one : (b : ℕ) → b < 256 → Bytes (b ∷ [])
    one b h zero = h
    one b h (suc i) = lit< tt

pub bytes-put : (s : List ℕ) (at : ℕ) (bs : List ℕ) → Bytes s → Bytes bs → Bytes (put s at bs)
unfolding put
bytes-put s at bs hs hb =
    bytes-append (take at s ++ bs) (drop (at + length bs) s) (bytes-append (take at s) bs (bytes_take at s hs) hb)
    (λ i. rw get_or-drop (hs (at + length bs + i)))

-- ---- parts of a slice

-- the k bytes from a on are bytes
pub bytes-part : (k a : ℕ) (s : List ℕ) → Bytes s → Bytes (take k (drop a s))
bytes-part k a s h = bytes_take k (drop a s) (λ i. rw get_or-drop (h (a + i)))

-- a number in the part from a on
pub be_at-drop : (s : List ℕ) (a at n : ℕ) → be_at (drop a s) at n ≡ be_at s (a + at) n
unfolding be_at
be_at-drop s a at zero = refl
be_at-drop s a at (suc n) =
    ap₂ (λ (x y : ℕ). x * 256 + y) (be_at-drop s a at n) (get_or-drop a s (at + n) 0 ∙ ap (λ (i : ℕ). get_or s i 0) (sym (add_assoc a at n)))

put-drop : (s : List ℕ) (a at : ℕ) (bs : List ℕ) → take a s ++ put (drop a s) at bs ≡ put s (a + at) bs
unfolding put
put-drop s a at bs = rw (take-add a at s, drop-drop (at + length bs) a s, add_assoc a at (length bs)) (simp append_assoc)

put-take : (s : List ℕ) (k at : ℕ) (bs : List ℕ) → at + length bs ≤ k → k ≤ length s → put (take k s) at bs ++ drop k s ≡ put s at bs
unfolding put
put-take s k at bs le lk =
    let n = at + length bs in
    let e : drop n (take k s) ++ drop k s ≡ drop n s =
    sym (drop-append-le n (take k s) (drop k s) (rw (length-take-le k s lk) le)) ∙ ap (drop n) (take-append-drop k s) in
    rw (take-take at k s (omega arith), append_assoc) (ap (λ (r : List ℕ). take at s ++ bs ++ r) e)

-- what a callee put into the k bytes from a on, as the whole comes back from `&mut s[a..a + k]`
pub put-part : (s : List ℕ) (a k at : ℕ) (bs : List ℕ) → at + length bs ≤ k → a + k ≤ length s
    → take a s ++ (put (take k (drop a s)) at bs ++ drop k (drop a s)) ≡ put s (a + at) bs
put-part s a k at bs le lk = rw (put-take (drop a s) k at bs le (simp length-drop (omega arith))) (put-drop s a at bs)

-- a copy to the start of a part
pub put_copy : (s bs : List ℕ) → take (length bs) bs ++ drop (length bs) s ≡ put s 0 bs
unfolding put
put_copy s bs = rw (take-length bs, zero-add (length bs))
