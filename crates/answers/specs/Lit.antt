-- Document 02, CR 3, 'Half a letter lit up': nearest's number drives the highlight and does not end inside a character. It is taken from the question alone.
--     in_character       a byte that goes on with a character: 128 to 191
--     may_end            a place where the lit part of a question may end: 0, its length, or before a byte that begins a character
--     lit               the greatest such place that is not above a count
--     accents           what of a question is lit: its bytes, how many of them are shared, and how many are lit
-- The laws are in proofs/Lit.antt. Assumes nothing: these are definitions.
use Rattle.std.specs.Prelude.{ℕ, zero, suc, Bool, not, ◌||◌, List, [], ◌∷◌, ◌++◌, eqb, leb, ltb, get_or, length}
use Rattle.words.specs.Words.{Bytes, both, pick}
use Rattle.format.specs.Example.{text}

abbrev pub in_character : ℕ → Bool
in_character b = both (leb 128 b) (leb b 191)

unfoldable pub may_end : Bytes → ℕ → Bool
may_end q place = eqb place 0 || (eqb place (length q) || both (ltb place (length q)) (not (in_character (get_or q place 0))))

unfoldable pub lit : Bytes → ℕ → ℕ
lit q zero = zero
lit q (suc count) = let less = lit q count in pick (may_end q (suc count)) (suc count) less

-- Café and Cafè part inside é (C3 A9, C3 A8); Α and Β inside a Greek letter; an accent of its own (CC 81); a letter of three bytes (E1 BC 80); a question that ends inside é; one that begins inside a character
abbrev pub accents : List (Bytes × ℕ × ℕ)
accents =
    (text "Caf" ++ (0xC3 ∷ 0xA8 ∷ []), 4, 3) ∷ (text "Caf" ++ (0xC3 ∷ 0xA8 ∷ []), 5, 5) ∷ (0xCE ∷ 0x92 ∷ [], 1, 0) ∷ (text "e" ++ (0xCC ∷ 0x80 ∷ []), 2, 1)
    ∷ (0xE1 ∷ 0xBC ∷ 0x81 ∷ [], 2, 0) ∷ (text "Caf" ++ (0xC3 ∷ []), 4, 4) ∷ (0xA9 ∷ 0x61 ∷ [], 1, 1) ∷ (0xA9 ∷ 0xA9 ∷ 0x61 ∷ [], 1, 0) ∷ []
