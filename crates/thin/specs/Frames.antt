-- The open forks as rows of numbers, and what going one name further asks and gives.
--     frames_in          the first t of them, the deepest first
--     words_by           the words of a book's names, by the plain rule
--     Ends              where a question ends in a fork: in its open child, where the name at hand goes its way; else where it did before
--     Rows              three rows with a place for each depth
--     Standing          name number c is at hand, as the last of those gone through, and under these forks
--     Wide              the names from c on stand under every depth below a limit, as far as it is asked for
--     CloseAsk, CloseSays     the forks of some depth on end
--     TopSays                 the deepest of some forks has a depth
--     ReachAsk                the names of a book can be gone through
--     GrowAsk, GrowSays       the name behind the one at hand comes in
-- The laws are in proofs/Frames.antt. Assumes nothing: these are definitions.
use Rattle.std.specs.Prelude.{ℕ, pred, suc, zero, ◌≤◌, ◌<◌, ◌≡◌, Bool, false, true, List, [], ◌∷◌, get_or, length}
use Rattle.words.specs.Words.{Bytes, Words, plain, shared, word}
use Rattle.words.specs.Rising.{Rises, nth}
use Rattle.format.specs.Book.{names_of}
use Rattle.format.specs.Spans.{words_of}
use Rattle.streams.specs.Streams.{Known}
use Rattle.thin.specs.Edges.{Edge, Fits, Frame, Inside, Lower, Open, Under}
use Rattle.thin.specs.declared.Closed.{Closed}

abbrev pub place_count : ℕ
place_count = 200

unfoldable pub frames_in : List ℕ → List ℕ → List ℕ → ℕ → List Frame
frames_in ds cs ps zero = []
frames_in ds cs ps (suc t) = record { depth = get_or ds t 0; first = get_or cs t 0; reach = get_or ps t 0 } ∷ frames_in ds cs ps t

abbrev pub words_by : Bytes → Words
words_by b = words_of plain b

pub data Ends (q x : List ℕ) (d child before r : ℕ) : Type 0 where
  in-it : Fits q x d → r ≡ child → Ends q x d child before r
  not_in : (Fits q x d → ⊥) → r ≡ before → Ends q x d child before r

pub record Rows (ds cs ps : List ℕ) : Type 0 where
  pub depths : length ds ≡ place_count
  pub firsts : length cs ≡ place_count
  pub reaches : length ps ≡ place_count

pub record Standing (b question name ds cs ps : Bytes) (forks c : ℕ) : Type 0 where
  pub rises : Rises (words_by b)
  pub within : c < length (words_by b)
  pub small : c < 65536
  pub name-is : word plain name ≡ nth (words_by b) c
  pub rows : Rows ds cs ps
  pub few : forks ≤ place_count
  pub edge : Edge (word plain question) (words_by b) (frames_in ds cs ps forks) c
  pub inside : Inside (words_by b) (frames_in ds cs ps forks) c (suc c)

abbrev pub Wide : Words → ℕ → ℕ → ℕ → Type 0
Wide ws limit c hi = (e : ℕ) → suc e ≡ limit → Under ws e c hi

pub record CloseAsk (b question name ds cs ps : Bytes) (forks c limit : ℕ) : Type 0 where
  pub standing : Standing b question name ds cs ps forks c
  pub low : limit ≤ suc (length (nth (words_by b) c))

pub record CloseSays (b question ds cs ps : Bytes) (forks c limit : ℕ) (r : Closed) : Type 0 where
  pub fewer : r.forks ≤ forks
  pub left : Open (word plain question) (words_by b) (frames_in ds cs ps r.forks) r.first (suc c) r.reach
  pub lower : Lower (frames_in ds cs ps r.forks) limit
  pub wide : Wide (words_by b) limit r.first (suc c)

abbrev pub TopSays : List ℕ → ℕ → ℕ → Bool → Type 0
TopSays ds t h true = (0 < t) × (get_or ds (pred t) 0 ≡ h)
TopSays ds t h false = 0 < t → get_or ds (pred t) 0 ≡ h → ⊥

-- the next name shares h symbols with the one at hand
pub record GrowAsk (b question name ds cs ps : Bytes) (forks c h : ℕ) : Type 0 where
  pub standing : Standing b question name ds cs ps forks c
  pub next : suc c < length (words_by b)
  pub parts : h ≡ shared (nth (words_by b) c) (nth (words_by b) (suc c))
  pub short : h < place_count

pub record GrowSays (b question ds cs ps : Bytes) (c forks : ℕ) : Type 0 where
  pub rows : Rows ds cs ps
  pub few : forks ≤ place_count
  pub edge : Edge (word plain question) (words_by b) (frames_in ds cs ps forks) (suc c)
  pub inside : Inside (words_by b) (frames_in ds cs ps forks) (suc c) (suc (suc c))

-- the entries of n names stand there, of one at least
pub record ReachAsk (b : Bytes) (n : ℕ) : Type 0 where
  pub known : Known plain b
  pub count : n ≡ length (names_of b)
  pub some : 1 ≤ n
