-- Document 02, CR 7, 'The laws are proved once over any rule that gives each byte a symbol from 1 to 256': what they speak of. The kinds of book are instances.
--     Lettered, AllLettered     what a rule is asked for: a symbol above 0 for each byte of a name, of some names
--     BookBy            the layout by a rule, a form of table and a mark yields these bytes for a block size and names: demand 3
--     BuiltBy           what a build by these leaves, and that its bytes are the book of the names that went in
--     Answers           a call answers every question as these names do
-- Assumes nothing: these are definitions.
use Rattle.std.specs.Prelude.{ℕ, ◌≤◌, ◌<◌, ◌≡◌, true, List, [], get_or, length, take}
use Rattle.words.specs.Words.{Bytes, InBytes, Rule, less, word}
use Rattle.format.specs.Kinds.{Form}
use Rattle.format.specs.Records.{encode, longest, most_names, sound}
use Rattle.format.specs.Book.{book_by, is_book_by, longest_book, names_of, told}
use Rattle.format.specs.Outcomes.{Answer, Written, given, over}
use Rattle.answers.specs.Calls.{names_answer}

-- each byte of it has a symbol above 0, as a lawful rule gives every byte; of some names, each
abbrev pub Lettered : Rule → Bytes → Type 0
Lettered ρ x = (d : ℕ) → d < length x → 0 < ρ (get_or x d 0)

abbrev pub AllLettered : Rule → List Bytes → Type 0
AllLettered ρ xs = (i : ℕ) → i < length xs → Lettered ρ (get_or xs i [])

pub record BookBy (ρ : Rule) (f : Form) (mark s : Bytes) (k : ℕ) (xs : List Bytes) : Type 0 where
  pub block : (1 ≤ k) × (k ≤ 64)
  pub few : length xs ≤ most_names
  pub sizes : (i : ℕ) → i < length xs → (1 ≤ length (get_or xs i [])) × (length (get_or xs i []) ≤ longest)
  pub letters : (i : ℕ) → i < length xs → InBytes (get_or xs i [])
  pub rises : (i j : ℕ) → i < j → j < length xs → less (word ρ (get_or xs i [])) (word ρ (get_or xs j [])) ≡ true
  pub layout : book_by ρ f mark k xs ≡ s
  pub short : length s ≤ longest_book

-- w is what the build left; the bytes that its answer counts are a book, and it tells the block size and the names again
pub record BuiltBy (ρ : Rule) (f : Form) (mark list : Bytes) (k : ℕ) (room : Bytes) (w : Written) : Type 0 where
  pub names : List Bytes
  pub listed : encode names ≡ list
  pub wrote : w ≡ record { answer = given (length (book_by ρ f mark k names)) 0; room = over (book_by ρ f mark k names) room }
  pub is : is_book_by ρ f mark (take w.answer.first w.room) ≡ true
  pub block : told (take w.answer.first w.room) 1 ≡ k
  pub again : names_of (take w.answer.first w.room) ≡ names

-- the public call does, on every sound book with these names, and so do the names by themselves
pub record Answers (ρ : Rule) (xs : List Bytes) (call : ℕ → Bytes → Answer) : Type 0 where
  pub letters : AllLettered ρ xs
  pub sound : sound ρ xs ≡ true
  pub is : (kind : ℕ) (q : Bytes) → call kind q ≡ names_answer ρ kind q xs
