-- Demand 3, and document 01's 'A path from the root': what the theorems speak of besides the layout and the calls.
--     BookOf, RoundTrip, comes_before     the kind's layout yields these bytes for a block size and names; what a build leaves and gives back; order by bytes
--     Path, Climbing    the depths of the nodes on a path down from the node of some words; each number is below the next
--     Alike, row_at, answer_at, span_of     two calls left the same, as far as their answers count; a batch, row by row
--     Greatest          no name shares more with a question than the one at a position. Assumes nothing: these are definitions.
use Rattle.std.specs.Prelude.{ℕ, suc, ◌≤◌, ◌<◌, ◌≡◌, Bool, false, true, List, [], ◌∷◌, eqb, ltb, length, get_or, take, drop}
use Rattle.words.specs.Words.{Bytes, Words, Rule, pick, word, shared}
use Rattle.format.specs.Kinds.{BookKind, form_of, mark_of, rule_of}
use Rattle.format.specs.Records.{encode}
use Rattle.format.specs.Nodes.{depth, groups}
use Rattle.format.specs.Book.{book}
use Rattle.format.specs.Outcomes.{Answer, Written, given, over, refused}
use Rattle.answers.specs.Questions.{Pair}
use Rattle.answers.specs.Calls.{Batched, Row, check, read_back}
use Rattle.theorems.specs.Layouts.{BookBy}

abbrev pub BookOf : BookKind → Bytes → ℕ → List Bytes → Type 0
BookOf κ s k xs = BookBy (rule_of κ) (form_of κ) (mark_of κ) s k xs

-- w is what the build left; the bytes that its answer counts are checked and read back by their own mark, each name into any room that holds it
pub record RoundTrip (κ : BookKind) (list : Bytes) (k : ℕ) (room : Bytes) (w : Written) : Type 0 where
  pub names : List Bytes
  pub listed : encode names ≡ list
  pub wrote : w ≡ record { answer = given (length (book κ k names)) 0; room = over (book κ k names) room }
  pub checked : let s = take w.answer.first w.room in check s ≡ given (length names) k
  pub reads : (i : ℕ) (lent : Bytes) → i < length names → length (get_or names i []) ≤ length lent
      → let s = take w.answer.first w.room in read_back s i lent ≡ record { answer = given (length (get_or names i [])) 0; room = over (get_or names i []) lent }

-- by the first byte in which two names differ; a name comes before its own extensions
unfoldable pub comes_before : Bytes → Bytes → Bool
comes_before [] [] = false
comes_before [] (b ∷ y) = true
comes_before (a ∷ x) [] = false
comes_before (a ∷ x) (b ∷ y) = let more = comes_before x y in pick (eqb a b) more (ltb a b)

unfoldable pub node_depth : Words → ℕ
node_depth [] = 0
node_depth (w ∷ []) = suc (length w)
node_depth (w ∷ v ∷ vs) = depth w (v ∷ vs)

-- it stops at a node, or goes on to child number j of a node of several words
pub data Path : Words → List ℕ → Type 0 where
  stop : {ws : Words} {d : ℕ} → d ≡ node_depth ws → Path ws (d ∷ [])
  down : {ws : Words} {d : ℕ} {ds : List ℕ} → d ≡ node_depth ws → 1 < length ws → (j : ℕ) → j < length (groups d ws) → Path (get_or (groups d ws) j []) ds
      → Path ws (d ∷ ds)

-- the same answer, and the same bytes at the front, as many as the answer counts
pub record Alike (a b : Written) : Type 0 where
  pub answer : a.answer ≡ b.answer
  pub front : take a.answer.first a.room ≡ take b.answer.first b.room

abbrev pub row_at : List Row → ℕ → Row
row_at rows i = get_or rows i (record { kind = 0; start = 0; size = 0 })

abbrev pub answer_at : Batched → ℕ → Answer
answer_at b i = get_or b.rows i (refused 11)

-- a row's own bytes in the buffer
abbrev pub span_of : Bytes → Row → Bytes
span_of buffer r = take r.size (drop r.start buffer)

pub record Greatest (ρ : Rule) (q : Bytes) (xs : List Bytes) (a : Pair) : Type 0 where
  pub within : a.0 < length xs
  pub shares : a.1 ≡ shared (word ρ q) (word ρ (get_or xs a.0 []))
  pub most : (i : ℕ) → i < length xs → shared (word ρ q) (word ρ (get_or xs i [])) ≤ a.1

abbrev pub Climbing : List ℕ → Type 0
Climbing ds = (i : ℕ) → suc i < length ds → get_or ds i 0 < get_or ds (suc i) 0
