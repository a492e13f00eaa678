-- How many nodes a search visits on its way down, and what a single question tells of that.
--     visits-none       none where there are no words
--     visits-some       one at least where there is one
--     visits-few        no more than there are words
--     visits-met        both bounds are met: a, ab and b, and the question a
--     visits-short      no more than q's length and 2: depths rise along the way, and q goes down only from those that its length reaches
--     entries-some      where there are words, the entries of the block up to the position reached
--     counted-answer    a single question's answer is that of the same question in a batch
--     counted-no, counted-given     what is told beside a refusal, and beside another answer
-- Assumes nothing.
use Prim.Native.Nat.{ℕ, zero, suc, ◌+◌, ◌%◌, ◌≤◌, ◌<◌, zero-le}
use native.Mathlib.Nat.{le_of_suc-le-suc, not-suc-le-zero}
use native.Mathlib.Omega.{arith}
use mathlib.Core.Path.{◌≡◌, ◌∙◌, ap, refl, sym, subst}
use mathlib.Core.Bool.{Bool, true, false}
use mathlib.Core.List.{List, [], ◌∷◌, map}
use lib.Dec.{ltb, eqb}
use lib.ListN.{length}
use borrow.Author.Tests.{eq-eqb, ltb-false, ne_eqb}
use Rattle.words.specs.Rising.{All, Rises, cons}
use Rattle.words.specs.Words.{Bytes, Rule, Words, at, pick, shared, word}
use Rattle.words.proofs.Lists.{all_head, all_left, all_map, all_right, all_tail}
use Rattle.words.proofs.Rising.{rises-left, rises-right}
use Rattle.format.specs.Nodes.{depth, glue, groups}
use Rattle.format.specs.Book.{Book, NoBook, Opened, opened}
use Rattle.format.specs.Outcomes.{Answer, given, refused}
use Rattle.format.proofs.Groups.{PartedGroups, Same, Share, Short, children, deeper, depth-share, joined_groups, part, shorter, whole}
use Rattle.answers.specs.Stops.{Stop, stop_at}
use Rattle.answers.specs.Questions.{child_of, reach_within, reached}
use Rattle.answers.specs.Calls.{names_answer, question, question_of}
use Rattle.answers.specs.Counts.{Counted, counted_of, counted_question, entries, names_counted, unlooked, visits}

pub visits-none : (q : List ℕ) → visits q [] ≡ 0
unfolding visits reach_within
visits-none q = refl

-- the words of a group share m symbols, where there are several
abbrev DeepFrom : ℕ → Words → Type 0
DeepFrom m [] = Unit {0}
DeepFrom m (w ∷ []) = Unit {0}
DeepFrom m (w ∷ v ∷ vs) = m ≤ depth w (v ∷ vs)

deep_none : (g : Words) → DeepFrom 0 g
deep_none [] = tt
deep_none (w ∷ []) = tt
deep_none (w ∷ v ∷ vs) = zero-le

-- n nodes are visited from the node of g on
record FewVisits (q : List ℕ) (g : Words) (n : ℕ) : Type 0 where
  some : 1 ≤ n
  few : n ≤ length g
  short : (m : ℕ) → DeepFrom m g → m ≤ suc (length q) → n + m ≤ length q + 2

abbrev AllFew : ℕ → List ℕ → Type 0
AllFew f q = (i : ℕ) (w : List ℕ) (g : Words) → Rises (w ∷ g) → length (w ∷ g) ≤ f → FewVisits q (w ∷ g) (reach_within f q i (w ∷ g)).visits

-- from a node of depth d, into one of its children or none
child-few : (f : ℕ) (q : List ℕ) → AllFew f q → (d s most i stay : ℕ) → d ≤ length q → (gs : List Words)
    → PartedGroups d gs → Rises (joined_groups gs) → Share d (joined_groups gs) → Short f gs → Short most gs
    → let n = (child_of (λ j g. reach_within f q j g) d s (stop_at stay) i gs).visits in (n ≤ most) × (n + suc d ≤ length q + 2)
unfolding child_of
child-few f q ih d s most i stay h gs whole r k a b = (zero-le, omega arith)
child-few f q ih d s most i stay h gs (part {w = w} {g = g} {gs = hs} same u p) r k (cons l a) (cons m b) =
    go (eqb s (at w d)) (child-few f q ih d s most (i + length (w ∷ g)) stay h hs p (rises-right (w ∷ g) (joined_groups hs) r)
    (all_map (λ y z. all_right (w ∷ g) (joined_groups hs) z) (all_right (w ∷ g) (joined_groups hs) k)) a b)
  where
    own : Rises (w ∷ g)
    own = rises-left (w ∷ g) (joined_groups hs) r

    deep : (h : Words) → Rises (w ∷ h) → All (λ z. d ≤ shared w z) (w ∷ h) → Same d w h → DeepFrom (suc d) (w ∷ h)
    deep [] o x e = tt
    deep (v ∷ vs) o x e = deeper d w v vs o (all_tail x) e

    more : Stop
    more = child_of (λ j k. reach_within f q j k) d s (stop_at stay) (i + length (w ∷ g)) hs

    go : (t : Bool) → (more.visits ≤ most) × (more.visits + suc d ≤ length q + 2)
        → ((pick t (reach_within f q i (w ∷ g)) more).visits ≤ most) × ((pick t (reach_within f q i (w ∷ g)) more).visits + suc d ≤ length q + 2)
    go true o =
        let n = ih i w g own l in
        (omega (arith, n.few), n.short (suc d) (deep g own (all_left (w ∷ g) (joined_groups hs) (all_head k)) same) (omega arith))
    go false o = o

all-few : (f : ℕ) (q : List ℕ) → AllFew f q
unfolding reach_within
all-few zero q i w g r l = absurd (not-suc-le-zero l)
all-few (suc f) q i w [] r l = record { some = omega arith; few = omega arith; short = λ m x y. omega arith }
all-few (suc f) q i w (v ∷ vs) r l =
    let d : ℕ = depth w (v ∷ vs) in
    let c = children w v vs r in
    go (ltb (length q) d) refl (λ h. child-few f q (all-few f q) d (at q d) (length (v ∷ vs)) i i h (groups d (w ∷ v ∷ vs)) c.parted c.rises
    (subst (Share d) (sym c.all) (depth-share w (v ∷ vs))) (shorter _ (le_of_suc-le-suc l) c.small) c.small)
  where
    below : Stop
    below = child_of (λ j g. reach_within f q j g) (depth w (v ∷ vs)) (at q (depth w (v ∷ vs))) (stop_at i) i (groups (depth w (v ∷ vs)) (w ∷ v ∷ vs))

    go : (t : Bool) → ltb (length q) (depth w (v ∷ vs)) ≡ t
        → (depth w (v ∷ vs) ≤ length q → (below.visits ≤ length (v ∷ vs)) × (below.visits + suc (depth w (v ∷ vs)) ≤ length q + 2))
        → FewVisits q (w ∷ v ∷ vs) (suc (pick t (stop_at i) below).visits)
    go true e k = record { some = omega arith; few = omega arith; short = λ m x y. omega arith }
    go false e k =
        let b = k (ltb-false (length q) (depth w (v ∷ vs)) e) in
        record { some = omega arith; few = omega (arith, b.0); short = λ m x y. omega (arith, b.1) }

module _ (q w : List ℕ) (ws : Words) (r : Rises (w ∷ ws)) where
  counted : FewVisits q (w ∷ ws) (visits q (w ∷ ws))
  unfolding visits
  counted = all-few (length (w ∷ ws)) q 0 w ws r (omega arith)

  pub visits-some : 1 ≤ visits q (w ∷ ws)
  visits-some = counted.some

pub visits-few : (q : List ℕ) (ws : Words) → Rises ws → visits q ws ≤ length ws
visits-few q [] r = omega (arith, visits-none q)
visits-few q (w ∷ ws) r = (counted q w ws r).few

pub visits-short : (q : List ℕ) (ws : Words) → Rises ws → visits q ws ≤ length q + 2
visits-short q [] r = omega (arith, visits-none q)
visits-short q (w ∷ ws) r = omega (arith, (counted q w ws r).short 0 (deep_none (w ∷ ws)) zero-le)

-- ---- as many as there can be

-- the words of a; of a, ab and b
abbrev lone : List ℕ
lone = 98 ∷ []

abbrev three : Words
three = lone ∷ (98 ∷ 99 ∷ []) ∷ (99 ∷ []) ∷ []

-- the root, the node of a and ab, and a's leaf
pub visits-met : (visits lone three ≡ length three) × (visits lone three ≡ length lone + 2)
unfolding shared depth glue groups child_of reach_within visits
visits-met = (refl, refl)

-- ---- a single question

pub entries-some : (k : ℕ) (q : List ℕ) (ws : Words) → 0 < length ws → entries k q ws ≡ suc (reached q ws % k)
unfolding entries
entries-some k q [] h = absurd (omega arith)
entries-some k q (w ∷ ws) h = refl

pub counted-answer : (kind : ℕ) (s q : Bytes) → (counted_question kind s q).answer ≡ question kind s q
unfolding counted_question question counted_of question_of names_counted
counted-answer kind s q = go (opened s)
  where
    go : (o : Opened) → (counted_of kind q o).answer ≡ question_of kind q o
    go NoBook = refl
    go (Book κ k xs) = refl

module _ (ρ : Rule) (k kind : ℕ) (q : Bytes) (xs : List Bytes) where
  pub counted-no : (code : ℕ) → (code ≡ 0 → ⊥) → names_answer ρ kind q xs ≡ refused code → names_counted ρ k kind q xs ≡ unlooked code
  unfolding names_counted
  counted-no code n e = rw (e, ne_eqb code 0 n) refl

  pub counted-given : (x y : ℕ) → names_answer ρ kind q xs ≡ given x y
      → names_counted ρ k kind q xs ≡ record { answer = given x y; visits = visits (word ρ q) (map (word ρ) xs); entries = entries k (word ρ q) (map (word ρ) xs) }
  unfolding names_counted
  counted-given x y e = rw e refl
