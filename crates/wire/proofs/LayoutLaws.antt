-- The laws of a layout, proved once and used for every message.
-- Assumes nothing.
use Rattle.std.specs.Prelude.{ℕ, ◌+◌, ◌≤◌, ◌<◌, ◌≡◌, refl, List, [], ◌∷◌, ◌++◌, length, get_or, take, drop}
use Rattle.std.proofs.Common.{sym, ap₂, subst, ◌∙◌, append_assoc, mod-eq_of_lt, add-one, arith, lit<, length-append, drop_of_length-le, drop-cons, length-take-le, take-add, drop-drop}
use Rattle.wire.specs.Be.{Bytes, bytes_of, put}
use Rattle.wire.proofs.BeLaws.{length-bytes_of, be-bytes, bytes-be, be_at-same, length-put, put-nil, put-put, get_or-put_before, get_or-put_after, bytes-append, bytes-bytes_of}
use Rattle.wire.specs.Layout.{total, fields_at, bytes_of_all, put_all, Fit}

pub length-bytes_of_all : (ws vs : List ℕ) → length (bytes_of_all ws vs) ≡ total ws
unfolding bytes_of_all
length-bytes_of_all [] vs = refl
length-bytes_of_all (w ∷ ws) [] = simp (length-append, length-bytes_of, length-bytes_of_all ws [])
length-bytes_of_all (w ∷ ws) (v ∷ vs) = simp (length-append, length-bytes_of, length-bytes_of_all ws vs)

-- some fields, and then the others
pub bytes_of_all-append : (ws us vs xs : List ℕ) → length ws ≡ length vs → bytes_of_all (ws ++ us) (vs ++ xs) ≡ bytes_of_all ws vs ++ bytes_of_all us xs
unfolding bytes_of_all
bytes_of_all-append [] us [] xs e = refl
bytes_of_all-append [] us (v ∷ vs) xs e = absurd (omega arith)
bytes_of_all-append (w ∷ ws) us [] xs e = absurd (omega arith)
bytes_of_all-append (w ∷ ws) us (v ∷ vs) xs e = rw (bytes_of_all-append ws us vs xs (omega arith)) (sym (append_assoc (bytes_of w v) (bytes_of_all ws vs) (bytes_of_all us xs)))

-- one field, and then the others
then : (s : List ℕ) (at w v : ℕ) (ws vs : List ℕ) → at + (w + total ws) ≤ length s
    → put (put s at (bytes_of w v)) (at + w) (bytes_of_all ws vs) ≡ put s at (bytes_of w v ++ bytes_of_all ws vs)
then s at w v ws vs le =
    put-put s at (at + w) (bytes_of w v) (bytes_of_all ws vs) (rw length-bytes_of refl) (rw length-bytes_of_all (omega arith))

room : (s : List ℕ) (at w v t : ℕ) → at + (w + t) ≤ length s → at + w + t ≤ length (put s at (bytes_of w v))
room s at w v t le = rw (length-put s at (bytes_of w v) (rw length-bytes_of (omega arith))) (omega arith)

-- the writes, one after the other, put the bytes of the layout there
pub put_all-put : (s : List ℕ) (at : ℕ) (ws vs : List ℕ) → at + total ws ≤ length s → put_all s at ws vs ≡ put s at (bytes_of_all ws vs)
unfolding put_all bytes_of_all
put_all-put s at [] vs le = sym (put-nil s at)
put_all-put s at (w ∷ ws) [] le = put_all-put (put s at (bytes_of w 0)) (at + w) ws [] (room s at w 0 (total ws) le) ∙ then s at w 0 ws [] le
put_all-put s at (w ∷ ws) (v ∷ vs) le = put_all-put (put s at (bytes_of w v)) (at + w) ws vs (room s at w v (total ws) le) ∙ then s at w v ws vs le

-- the turn of a loop over the fields: the field i, and then those after it
pub total-next : (ws : List ℕ) (i : ℕ) → i < length ws → total (drop i ws) ≡ get_or ws i 0 + total (drop (i + 1) ws)
total-next ws i h = rw (add-one, drop-cons ws i 0 h)

pub put_all-next : (s : List ℕ) (p : ℕ) (ws vs : List ℕ) (i : ℕ) → i < length ws → i < length vs
    → put_all (put s p (bytes_of (get_or ws i 0) (get_or vs i 0))) (p + get_or ws i 0) (drop (i + 1) ws) (drop (i + 1) vs) ≡ put_all s p (drop i ws) (drop i vs)
unfolding put_all
put_all-next s p ws vs i hw hv = rw (add-one, drop-cons ws i 0 hw, drop-cons vs i 0 hv)

pub put_all-end : (s : List ℕ) (p : ℕ) (ws vs : List ℕ) (i : ℕ) → length ws ≤ i → put_all s p (drop i ws) (drop i vs) ≡ s
unfolding put_all
put_all-end s p ws vs i h = rw (drop_of_length-le ws h)

-- what was written is read back, wherever it stands
pub fields-bytes : (ws vs p q : List ℕ) → Fit ws vs → fields_at ws (p ++ bytes_of_all ws vs ++ q) (length p) ≡ vs
unfolding fields_at bytes_of_all Fit
fields-bytes [] [] p q f = refl
fields-bytes [] (v ∷ vs) p q f = absurd f
fields-bytes (w ∷ ws) [] p q f = absurd f
fields-bytes (w ∷ ws) (v ∷ vs) p q f =
    let b = bytes_of w v in
    let r = bytes_of_all ws vs in
    let e : p ++ (b ++ r) ++ q ≡ p ++ b ++ (r ++ q) = simp append_assoc in
    let e' : p ++ (b ++ r) ++ q ≡ (p ++ b) ++ r ++ q = simp append_assoc in
    let k : length (p ++ b) ≡ length p + w = simp (length-append, length-bytes_of) in
    ap₂ ◌∷◌
    (rw (e, be-bytes w v p (r ++ q)) (mod-eq_of_lt f.0))
    (rw (e', ← k) (fields-bytes ws vs (p ++ b) q f.1))

pub fields-put : (s : List ℕ) (at : ℕ) (ws vs : List ℕ) → at ≤ length s → Fit ws vs → fields_at ws (put s at (bytes_of_all ws vs)) at ≡ vs
unfolding put
fields-put s at ws vs le f =
    subst (λ (k : ℕ). fields_at ws (take at s ++ bytes_of_all ws vs ++ drop (at + length (bytes_of_all ws vs)) s) k ≡ vs) (length-take-le at s le)
    (fields-bytes ws vs (take at s) (drop (at + length (bytes_of_all ws vs)) s) f)

-- the bytes of the numbers that were read are those that stand there
pub bytes-fields : (ws s : List ℕ) (at : ℕ) → Bytes s → at + total ws ≤ length s → bytes_of_all ws (fields_at ws s at) ≡ take (total ws) (drop at s)
unfolding fields_at bytes_of_all
bytes-fields [] s at b le = refl
bytes-fields (w ∷ ws) s at b le =
    rw (take-add w (total ws) (drop at s), drop-drop w at s)
    (ap₂ ◌++◌ (bytes-be s at w b (omega arith)) (bytes-fields ws s (at + w) b (omega arith)))

-- fields that stand in a list, and then others
pub bytes-fields-then : (ws s : List ℕ) (at : ℕ) (us xs rest : List ℕ) → Bytes s → at + total ws ≤ length s → length ws ≡ length (fields_at ws s at)
    → bytes_of_all us xs ≡ rest → bytes_of_all (ws ++ us) (fields_at ws s at ++ xs) ≡ take (total ws) (drop at s) ++ rest
bytes-fields-then ws s at us xs rest b le l e = bytes_of_all-append ws us (fields_at ws s at) xs l ∙ ap₂ ◌++◌ (bytes-fields ws s at b le) e

-- fields outside a run of bytes are as they were
pub fields-same : (ws s t : List ℕ) (at : ℕ) → ((i : ℕ) → at ≤ i → i < at + total ws → get_or s i 0 ≡ get_or t i 0) → fields_at ws s at ≡ fields_at ws t at
unfolding fields_at
fields-same [] s t at h = refl
fields-same (w ∷ ws) s t at h =
    ap₂ ◌∷◌ (be_at-same s t at w (λ i lo hi. h i lo (omega arith))) (fields-same ws s t (at + w) (λ i lo hi. h i (omega arith) (omega arith)))

pub fields-before : (ws s : List ℕ) (at k : ℕ) (bs : List ℕ) → at + total ws ≤ k → k ≤ length s → fields_at ws (put s k bs) at ≡ fields_at ws s at
fields-before ws s at k bs h le = fields-same ws (put s k bs) s at (λ i lo hi. get_or-put_before s k bs i (omega arith) le)

pub fields-after : (ws s : List ℕ) (at k : ℕ) (bs : List ℕ) → k + length bs ≤ at → k + length bs ≤ length s
    → fields_at ws (put s k bs) at ≡ fields_at ws s at
fields-after ws s at k bs h le = fields-same ws (put s k bs) s at (λ i lo hi. get_or-put_after s k bs i (omega arith) le)

pub bytes-bytes_of_all : (ws vs : List ℕ) → Bytes (bytes_of_all ws vs)
unfolding bytes_of_all
bytes-bytes_of_all [] vs = λ i. lit< tt
bytes-bytes_of_all (w ∷ ws) [] = bytes-append (bytes_of w 0) (bytes_of_all ws []) (bytes-bytes_of w 0) (bytes-bytes_of_all ws [])
bytes-bytes_of_all (w ∷ ws) (v ∷ vs) = bytes-append (bytes_of w v) (bytes_of_all ws vs) (bytes-bytes_of w v) (bytes-bytes_of_all ws vs)
