-- Document 01, 'Layout of a book', parts 1 and 2: the entries, in blocks of k names, and where each block begins.
--     entry, front      what a name adds to the one before it; the entries of names in a row
--     blocks, offsets   each block's entries; where each of them begins
--     decode            the names that a run of entries tells
-- The laws are in proofs/Entries.antt. Assumes nothing: these are definitions.
use Rattle.std.specs.Prelude.{ℕ, zero, suc, ◌+◌, pred, List, [], ◌∷◌, ◌++◌, map, length, take, drop}
use Rattle.words.specs.Words.{Bytes, shared}

-- the count shared with the name before, the length of the rest, the rest
unfoldable pub entry : Bytes → Bytes → Bytes
entry prev x =
    let rest = drop (shared prev x) x in
    shared prev x ∷ length rest ∷ rest

unfoldable pub front : Bytes → List Bytes → Bytes
front prev [] = []
front prev (x ∷ xs) = entry prev x ++ front x xs

-- blocks of k names, the last one 1 to k; the first `skip` names belong to the block before
unfoldable pub blocks_from : ℕ → ℕ → List Bytes → List (List Bytes)
blocks_from k zero [] = []
blocks_from k zero (x ∷ xs) = take k (x ∷ xs) ∷ blocks_from k (pred k) xs
blocks_from k (suc skip) [] = []
blocks_from k (suc skip) (x ∷ xs) = blocks_from k skip xs

-- a block's first name comes after nothing, so its count is 0
unfoldable pub blocks : ℕ → List Bytes → List Bytes
blocks k xs = map (front []) (blocks_from k 0 xs)

-- the first at o
unfoldable pub offsets : ℕ → List Bytes → List ℕ
offsets o [] = []
offsets o (b ∷ bs) = o ∷ offsets (o + length b) bs

-- After the name prev, with `skip` bytes of the entry before to pass. Total; what it gives is judged by building the book again.
unfoldable pub decode_from : Bytes → ℕ → Bytes → List Bytes
decode_from prev zero [] = []
decode_from prev zero (c ∷ []) = []
decode_from prev zero (c ∷ l ∷ rest) =
    let x = take c prev ++ take l rest in
    x ∷ decode_from x l rest
decode_from prev (suc skip) [] = []
decode_from prev (suc skip) (b ∷ rest) = decode_from prev skip rest

unfoldable pub decode : Bytes → List Bytes
decode s = decode_from [] 0 s
