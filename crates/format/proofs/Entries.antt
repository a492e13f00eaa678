-- Entries give the names back, from the start and from the start of any block.
--     decode-skip, decode-entries
--     blocks-first, joined-blocks, entries-first, by_blocks    the first block, and then those of the names after it
--     offset_at_lem, decode-at      where block j begins, and what is read from there on
-- Assumes nothing.
use Prim.Native.Nat.{ℕ, zero, suc, ◌+◌, ◌*◌, ◌≤◌, ◌<◌}
use native.Mathlib.Nat.{le_of_suc-le-suc, not-suc-le-zero}
use native.Mathlib.Omega.{arith}
use mathlib.Core.Path.{◌≡◌, refl, sym, ap, ap₂, ◌∙◌}
use mathlib.Core.List.{List, [], ◌∷◌, ◌++◌, map, append_assoc, append-nil}
use lib.ListN.{length, get_or, take, drop, length-append, take-append-drop, length-drop, length-map}
use lib.Seq.{take-append_seam, drop-append_seam, drop-append-add, drop-drop, drop-nil}
use Rattle.words.specs.Words.{Bytes, shared}
use Rattle.words.proofs.Words.{take-shared}
use Rattle.format.specs.Book.{entry_part, joined}
use Rattle.format.specs.Entries.{blocks, blocks_from, decode, decode_from, entry, front, offsets}

pub decode-skip : (prev : Bytes) (n : ℕ) (s : Bytes) → decode_from prev n s ≡ decode_from prev 0 (drop n s)
unfolding decode_from
decode-skip prev zero s = refl
decode-skip prev (suc n) [] = refl
decode-skip prev (suc n) (b ∷ s) = decode-skip prev n s

-- an entry after p, which shares with x what prev does, is x
decode-entry : (prev p x rest : Bytes) → take (shared p x) prev ≡ take (shared p x) x
    → decode_from prev 0 (entry p x ++ rest) ≡ x ∷ decode_from x 0 rest
unfolding entry decode_from
decode-entry prev p x rest h =
    let d : Bytes = drop (shared p x) x in
    let e : take (shared p x) prev ++ take (length d) (d ++ rest) ≡ x =
    ap₂ (λ (a b : Bytes). a ++ b) h (take-append_seam d rest) ∙ take-append-drop (shared p x) x in
    ap₂ (λ (y : Bytes) (r : List Bytes). y ∷ r) e
    (decode-skip _ (length d) (d ++ rest) ∙ ap₂ (λ (y s : Bytes). decode_from y 0 s) e (drop-append_seam d rest))

-- a block's entries after prev, and then others
decode-front : (prev : Bytes) (xs : List Bytes) (rest : Bytes) (after : List Bytes) → ((p : Bytes) → decode_from p 0 rest ≡ after)
    → decode_from prev 0 (front prev xs ++ rest) ≡ xs ++ after
unfolding front
decode-front prev [] rest after h = h prev
decode-front prev (x ∷ xs) rest after h =
    ap (decode_from prev 0) (append_assoc (entry prev x) (front x xs) rest)
    ∙ decode-entry prev prev x (front x xs ++ rest) (take-shared prev x)
    ∙ ap (λ (r : List Bytes). x ∷ r) (decode-front x xs rest after h)

-- a whole block's entries are read alike after any name
decode-block : (prev : Bytes) (xs : List Bytes) (rest : Bytes) (after : List Bytes) → ((p : Bytes) → decode_from p 0 rest ≡ after)
    → decode_from prev 0 (front [] xs ++ rest) ≡ xs ++ after
unfolding front shared
decode-block prev [] rest after h = h prev
decode-block prev (x ∷ xs) rest after h =
    ap (decode_from prev 0) (append_assoc (entry [] x) (front x xs) rest)
    ∙ decode-entry prev [] x (front x xs ++ rest) refl
    ∙ ap (λ (r : List Bytes). x ∷ r) (decode-front x xs rest after h)

-- a block's entries alone tell its names
pub decode-alone : (xs : List Bytes) → decode (front [] xs) ≡ xs
unfolding decode decode_from
decode-alone xs = ap (decode_from [] 0) (sym (append-nil (front [] xs))) ∙ decode-front [] xs [] [] (λ p. refl) ∙ append-nil xs

abbrev pub joined_names : List (List Bytes) → List Bytes
joined_names [] = []
joined_names (b ∷ bs) = b ++ joined_names bs

decode-blocks : (prev : Bytes) (bs : List (List Bytes)) → decode_from prev 0 (joined (map (front []) bs)) ≡ joined_names bs
unfolding joined decode_from
decode-blocks prev [] = refl
decode-blocks prev (b ∷ bs) = decode-block prev b (joined (map (front []) bs)) (joined_names bs) (λ p. decode-blocks p bs)

-- ---- blocks

blocks-skip : (k n : ℕ) (xs : List Bytes) → blocks_from k n xs ≡ blocks_from k 0 (drop n xs)
unfolding blocks_from
blocks-skip k zero xs = refl
blocks-skip k (suc n) [] = refl
blocks-skip k (suc n) (x ∷ xs) = blocks-skip k n xs

-- the first block, and then the blocks of the names after it
pub blocks-first : (k : ℕ) (x : Bytes) (xs : List Bytes) → 1 ≤ k → blocks_from k 0 (x ∷ xs) ≡ take k (x ∷ xs) ∷ blocks_from k 0 (drop k (x ∷ xs))
unfolding blocks_from
blocks-first zero x xs h = absurd (not-suc-le-zero h)
blocks-first (suc k) x xs h =
    ap (λ (r : List (List Bytes)). (x ∷ take k xs) ∷ r)
    (ap (λ (n : ℕ). blocks_from (suc k) n xs) (omega arith) ∙ blocks-skip (suc k) k xs)

-- By blocks: what holds of no names, and of names where it holds of those after the first block, holds of all.
pub by_blocks : (k : ℕ) → 1 ≤ k → (P : List Bytes → Type 0) → P [] → ((x : Bytes) (xs : List Bytes) → P (drop k (x ∷ xs)) → P (x ∷ xs)) → (xs : List Bytes) → P xs
by_blocks k h P none more xs = go (length xs) xs (omega arith)
  where
    go : (n : ℕ) (ys : List Bytes) → length ys ≤ n → P ys
    go zero [] l = none
    go zero (y ∷ ys) l = absurd (not-suc-le-zero l)
    go (suc n) [] l = none
    go (suc n) (y ∷ ys) l = more y ys (go n (drop k (y ∷ ys)) (omega (arith, length-drop k (y ∷ ys))))

pub joined-blocks : (k : ℕ) (xs : List Bytes) → 1 ≤ k → joined_names (blocks_from k 0 xs) ≡ xs
unfolding blocks_from
joined-blocks k xs h = by_blocks k h (λ (ys : List Bytes). joined_names (blocks_from k 0 ys) ≡ ys) refl
    (λ y ys ih. ap joined_names (blocks-first k y ys h) ∙ ap (λ (r : List Bytes). take k (y ∷ ys) ++ r) ih ∙ take-append-drop k (y ∷ ys)) xs

pub decode-entries : (k : ℕ) (xs : List Bytes) → 1 ≤ k → decode (entry_part k xs) ≡ xs
unfolding decode blocks entry_part
decode-entries k xs h = decode-blocks [] (blocks_from k 0 xs) ∙ joined-blocks k xs h

-- the entries of a book are those of its first block, and then those of the book of the names after it
pub entries-first : (k : ℕ) (x : Bytes) (xs : List Bytes) → 1 ≤ k → entry_part k (x ∷ xs) ≡ front [] (take k (x ∷ xs)) ++ entry_part k (drop k (x ∷ xs))
unfolding entry_part blocks joined
entries-first k x xs h = ap (λ (bs : List (List Bytes)). joined (map (front []) bs)) (blocks-first k x xs h)

-- ---- a block's offset

offset_at_lem : (o j : ℕ) (bs : List Bytes) → j < length bs → get_or (offsets o bs) j 0 ≡ o + length (joined (take j bs))
unfolding offsets joined
offset_at_lem o j [] l = absurd (not-suc-le-zero l)
offset_at_lem o zero (b ∷ bs) l = omega arith
offset_at_lem o (suc j) (b ∷ bs) l =
    offset_at_lem (o + length b) j bs (le_of_suc-le-suc l)
    ∙ omega (arith, length-append b (joined (take j bs)))

drop-joined : (j : ℕ) (bs : List Bytes) → drop (length (joined (take j bs))) (joined bs) ≡ joined (drop j bs)
unfolding joined
drop-joined zero bs = refl
drop-joined (suc j) [] = refl
drop-joined (suc j) (b ∷ bs) =
    ap (λ (n : ℕ). drop n (b ++ joined bs)) (length-append b (joined (take j bs)))
    ∙ drop-append-add b (joined bs) (length (joined (take j bs))) ∙ drop-joined j bs

drop-blocks : (k j : ℕ) (xs : List Bytes) → 1 ≤ k → drop j (blocks_from k 0 xs) ≡ blocks_from k 0 (drop (j * k) xs)
unfolding blocks_from
drop-blocks k zero xs h = let n : 0 ≡ 0 * k = omega arith in ap (λ (m : ℕ). blocks_from k 0 (drop m xs)) n
drop-blocks k (suc j) [] h = ap (blocks_from k 0) (sym (drop-nil (suc j * k)))
drop-blocks k (suc j) (x ∷ xs) h =
    let n : k + j * k ≡ suc j * k = omega arith in
    ap (drop (suc j)) (blocks-first k x xs h)
    ∙ drop-blocks k j (drop k (x ∷ xs)) h
    ∙ ap (blocks_from k 0) (drop-drop (j * k) k (x ∷ xs) ∙ ap (λ (m : ℕ). drop m (x ∷ xs)) n)

some_block : (k : ℕ) (xs : List Bytes) → 0 < length xs → 0 < length (blocks_from k 0 xs)
unfolding blocks_from
some_block k [] h = h
some_block k (x ∷ xs) h = omega arith

map-drop : (j : ℕ) (bs : List (List Bytes)) → drop j (map (front []) bs) ≡ map (front []) (drop j bs)
map-drop zero bs = refl
map-drop (suc j) [] = refl
map-drop (suc j) (b ∷ bs) = map-drop j bs

-- block j begins where its offset says, and from there on the entries are read as the names from j times k on
pub decode-at : (k j : ℕ) (prev : Bytes) (xs : List Bytes) → 1 ≤ k → j * k < length xs
    → decode_from prev 0 (drop (get_or (offsets 0 (blocks k xs)) j 0) (entry_part k xs)) ≡ drop (j * k) xs
unfolding blocks entry_part
decode-at k j prev xs h l =
    let ys : List Bytes = drop (j * k) xs in
    let e : drop j (blocks k xs) ≡ blocks k ys = map-drop j (blocks_from k 0 xs) ∙ ap (map (front [])) (drop-blocks k j xs h) in
    let some : 0 < length (blocks_from k 0 ys) = some_block k ys (omega (arith, length-drop (j * k) xs)) in
    let there : j < length (blocks k xs) = omega (arith, ap length e, length-drop j (blocks k xs), length-map (blocks_from k 0 ys) (front [])) in
    let o : get_or (offsets 0 (blocks k xs)) j 0 ≡ length (joined (take j (blocks k xs))) = omega (arith, offset_at_lem 0 j (blocks k xs) there) in
    ap (λ (n : ℕ). decode_from prev 0 (drop n (joined (blocks k xs)))) o
    ∙ ap (decode_from prev 0) (drop-joined j (blocks k xs) ∙ ap joined e)
    ∙ decode-blocks prev (blocks_from k 0 ys) ∙ joined-blocks k ys h
