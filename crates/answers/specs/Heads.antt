-- Document 02, CR 2: a step shows the lesser of the heads of two lists, of which it is told how many records have been passed.
--     Head, head_at, lesser_head, head_of     a head: its list (1 or 2), where its name begins there, behind the length byte, and its length
--     bytes_of, part_of   the bytes that a head names in one of the two lists; with the place where they are lent
--     screen            what a screen shows that goes on from some counts
-- The laws are in proofs/Heads.antt. Assumes nothing: these are definitions.
use Rattle.std.specs.Prelude.{ℕ, zero, suc, ◌+◌, List, [], ◌∷◌, eqb, drop, get_or, length, take}
use Rattle.std.specs.Borrow.{Bor}
use Rattle.words.specs.Words.{Bytes, less, pick, plain, same, word}
use Rattle.format.specs.Records.{encode}
use Rattle.answers.specs.Merging.{of_both}

abbrev pub Head : Type 0
Head = ℕ × ℕ × ℕ

-- the head of a list behind i records
abbrev pub head_at : ℕ → ℕ → List Bytes → Head
head_at list i xs = (list, length (encode (take i xs)) + 1, length (get_or xs i []))

-- An exhausted list gives the other's head, two of them an empty part of the first; of equal heads the first list's.
unfoldable pub lesser_head : Head → Head → List Bytes → List Bytes → Head
lesser_head a b [] [] = (1, 0, 0)
lesser_head a b (x ∷ xs) [] = a
lesser_head a b [] (y ∷ ys) = b
lesser_head a b (x ∷ xs) (y ∷ ys) = pick (less (word plain y) (word plain x)) b a

-- a refused list: an empty part of the first
unfoldable pub head_of : Bytes → Bytes → ℕ → ℕ → Head
head_of s t i j = of_both (λ a. (1, 0, 0)) (λ xs ys. lesser_head (head_at 1 i xs) (head_at 2 j ys) (drop i xs) (drop j ys)) s t

abbrev pub bytes_of : Bytes → Bytes → Head → Bytes
bytes_of s t h = take h.2 (drop h.1 (pick (eqb h.0 2) t s))

abbrev pub part_of : Bor Bytes → Bor Bytes → Head → (ℕ × ℕ) × Bytes
part_of s t h = let lent = pick (eqb h.0 2) t.ref_ptr s.ref_ptr in ((lent.0, h.1 + lent.1), bytes_of s.now t.now h)

-- Each turn shows a part, then passes the head of either list that is the name shown; a list's own head is shown where the other's is exhausted.
unfoldable pub screen : ℕ → Bytes → Bytes → ℕ → ℕ → List Bytes
screen zero s t i j = []
screen (suc turns) s t i j =
    let name = bytes_of s t (head_of s t i j) in
    let passed : Head → ℕ = λ own. pick (same (bytes_of s t own) name) 1 0 in
    name ∷ screen turns s t (i + passed (head_of s t i (length t))) (j + passed (head_of s t (length s) j))
