-- What a blind search over the flat node table of a sound list may conclude, for any question and any lawful rule; ws are the names'
-- words and q is the question's. The laws, for any rising words, and the words of the search are in the crate descent: node
-- numbers, their spans from `from` up to `upto`, the path of a descent (specs/Vocabulary.antt).
--     search-descends   every question has a descent of at most 202 nodes, from the root to where it halts
--     search-reaches    its last node's first name is the one that the definition reaches
--     search-finds      the highest node on it whose depth is at least what the reached name shares holds just the names that share most
--     search-before, search-after    inside an edge: that whole group lies before q, or after it
--     search-child, search-end       at a fork: the place is before the first child with a greater symbol, or after the group
--     search-range, search-no-range  the range is that node's names, or none
--     search-exact, search-not-exact the reached name is q, or no name is
--     search-book       every accepted book with names gives a search what it asks
-- Assumes nothing.
use Prim.Native.Nat.{ℕ, ◌+◌, ◌≤◌, ◌<◌}
use native.Mathlib.Omega.{arith}
use mathlib.Core.Path.{◌≡◌, refl, sym, ap, ap₂, ◌∙◌}
use mathlib.Core.Bool.{true}
use mathlib.Core.List.{List, map}
use lib.ListN.{length, length-map}
use Rattle.words.specs.Rising.{Rises, nth}
use Rattle.words.specs.Words.{Bytes, InBytes, Rule, Words, at, begins, shared, word}
use Rattle.format.specs.Kinds.{BookKind, form_of, rule_of}
use Rattle.format.specs.Book.{Book, opened, told}
use Rattle.format.specs.Records.{sound}
use Rattle.format.proofs.Records.{sound-rising, symbols-rises, word-short}
use Rattle.answers.specs.Questions.{Pair, count, exact, place, range, reached}
use Rattle.answers.proofs.Nearest.{reached-most, reached-within}
use Rattle.descent.proofs.Bytes.{opened-searchable}
use Rattle.descent.proofs.Cuts.{exact-here, exact-nowhere, range_none, whole-place, whole-range}
use Rattle.descent.proofs.Exists.{WholeWay, descent-exists}
use Rattle.descent.proofs.Paths.{edge-after, edge-before, fork-child, fork-end, found, only-reached, reached-is}
use Rattle.standing.specs.Maps.{map_in}
use Rattle.descent.specs.Vocabulary.{Descended, Found, Highest, Searchable, Sought, from, node, upto}
use Rattle.theorems.specs.Layouts.{AllLettered, Lettered}
use Rattle.theorems.proofs.Lettered.{lettered-positive, names-symbols}

module _ (ρ : Rule) (xs : List Bytes) (letters : AllLettered ρ xs) (is : sound ρ xs ≡ true) (question : Bytes) where
  abbrev pub ws : Words
  ws = map (word ρ) xs

  abbrev pub q : List ℕ
  q = word ρ question

  pub r : Rises (map (word ρ) xs)
  r = symbols-rises ρ xs (names-symbols ρ xs letters) (sound-rising ρ xs is)

  pub search-descends : 0 < length xs → WholeWay ws r q (word-short ρ xs is)
  search-descends h = descent-exists ws r q (word-short ρ xs is) (omega (arith, length-map xs (word ρ)))

  module _ {p : List ℕ} {n v : ℕ} (t : Descended ws q p n v) where
    pub search-reaches : reached q ws ≡ from ws v
    search-reaches = reached-is ws r t

    -- u is the highest node on the path that is as deep as the reached name shares symbols with q
    pub search-finds : {u : ℕ} → Highest ws p n (shared q (nth ws (reached q ws))) u → Found ws q (shared q (nth ws (reached q ws))) u
    search-finds h = found ws r t refl h

    pub search-not-exact : Lettered ρ question → (nth ws (reached q ws) ≡ q → ⊥) → exact q ws ≡ (0, 0)
    search-not-exact own n =
        exact-nowhere ws q r (lettered-positive ρ question own) (λ i h e. n (ap (nth ws) (sym (only-reached ws r t i h e)) ∙ e))

  pub search-exact : Lettered ρ question → 0 < length xs → nth ws (reached q ws) ≡ q → exact q ws ≡ (reached q ws, 1)
  search-exact own h e = exact-here ws q r (lettered-positive ρ question own) (reached q ws) (reached-within q ws r (omega (arith, length-map xs (word ρ)))) e

  module _ {m u : ℕ} (f : Found ws q m u) where
    pub search-before : m < (node ws u).depth → at (nth ws (reached q ws)) m < at q m → upto ws u ≡ place q ws
    search-before h l = edge-before ws r f h l

    pub search-after : m < (node ws u).depth → at q m ≤ at (nth ws (reached q ws)) m → from ws u ≡ place q ws
    search-after h l = edge-after ws r f h l

    -- c is the first child of u whose symbol is not below q's, or the end of u's row
    pub search-child : {c : ℕ} → (node ws u).depth ≤ m → Sought ws u (at q m) c → c < u + (node ws u).nodes → from ws c ≡ place q ws
    search-child h k l = fork-child ws r f h k l

    pub search-end : {c : ℕ} → (node ws u).depth ≤ m → Sought ws u (at q m) c → u + (node ws u).nodes ≤ c → upto ws u ≡ place q ws
    search-end h k l = fork-end ws r f h k l

    pub search-range : m ≡ length q → range q ws ≡ (from ws u, (node ws u).names)
    unfolding range
    search-range e =
        let lo : ℕ = from ws u in
        let hi : ℕ = upto ws u in
        let size : count (begins q) ws ≡ (node ws u).names = sym (whole-range ws q r m lo hi f.group e) ∙ omega arith in
        ap₂ {C = Pair} (λ (a b : ℕ). (a, b)) (sym (whole-place ws q r m lo hi f.group e)) size

  pub search-no-range : shared q (nth ws (reached q ws)) < length q → range q ws ≡ (place q ws, 0)
  unfolding range
  search-no-range h =
      let none : count (begins q) ws ≡ 0 = sym (range_none ws q r (shared q (nth ws (reached q ws))) (λ i l. reached-most q ws r i l) h) in
      ap (λ (c : ℕ). (place q ws, c)) none

pub search-book : (κ : BookKind) (s : Bytes) (k : ℕ) (xs : List Bytes) → InBytes s → opened s ≡ Book κ k xs → 0 < length xs → Searchable (rule_of κ) s (map_in (form_of κ) (told s 3) (told s 4))
search-book κ s k xs h e some = opened-searchable κ s k xs e h some
