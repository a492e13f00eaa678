-- Document 02, CR 8: how far a search looks, over the plain list of words, and what a single question gives.
--     visits, entries   the nodes visited going down, root and last node counted; the entries read to rebuild the name reached, from its block's first on
--     Counted, counted_question, unlooked     an answer with both; a question of kind 1 to 5; a code, without a look at anything
-- The laws are in proofs/Counts.antt. Assumes nothing: these are definitions.
use Rattle.std.specs.Prelude.{ℕ, suc, ◌%◌, List, [], ◌∷◌, map, eqb, length}
use Rattle.words.specs.Words.{Bytes, Rule, Words, pick, word}
use Rattle.format.specs.Kinds.{rule_of}
use Rattle.format.specs.Book.{Opened, Book, NoBook, opened}
use Rattle.format.specs.Outcomes.{Answer, refused}
use Rattle.answers.specs.Questions.{reach_within, reached}
use Rattle.answers.specs.Calls.{names_answer}

unfoldable pub visits : List ℕ → Words → ℕ
visits q ws = (reach_within (length ws) q 0 ws).visits

unfoldable pub entries : ℕ → List ℕ → Words → ℕ
entries k q [] = 0
entries k q (w ∷ ws) = suc (reached q (w ∷ ws) % k)

pub record Counted : Type 0 where
  pub answer : Answer
  pub visits : ℕ
  pub entries : ℕ

abbrev pub unlooked : ℕ → Counted
unlooked code = record { answer = refused code; visits = 0; entries = 0 }

-- of names in blocks of k, by a rule
unfoldable pub names_counted : Rule → ℕ → ℕ → Bytes → List Bytes → Counted
names_counted ρ k kind q xs =
    let a = names_answer ρ kind q xs in
    let looked : ℕ → ℕ = λ n. pick (eqb a.code 0) n 0 in
    record { answer = a; visits = looked (visits (word ρ q) (map (word ρ) xs)); entries = looked (entries k (word ρ q) (map (word ρ) xs)) }

unfoldable pub counted_of : ℕ → Bytes → Opened → Counted
counted_of kind q NoBook = unlooked 2
counted_of kind q (Book κ k xs) = names_counted (rule_of κ) k kind q xs

unfoldable pub counted_question : ℕ → Bytes → Bytes → Counted
counted_question kind s q = counted_of kind q (opened s)
