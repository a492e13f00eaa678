-- One name more comes in.
--     top-none, top-says, top-is              whether the deepest fork has a depth
--     frames-kept, frames-count     forks keep their numbers where others are stored; how many they are
--     grow-close                what the forks that end ask
--     grow-child, grow-push     what has ended is a child of the deepest fork, or of a fork that opens
-- Assumes nothing.
use Prim.Native.Nat.{ℕ, pred, suc, zero, ◌+◌, ◌-◌, ◌≤◌, ◌<◌}
use native.Mathlib.Nat.{lt_irrefl}
use native.Mathlib.Omega.{arith}
use mathlib.Core.Path.{◌≡◌, ◌∙◌, ap, ap₂, refl, subst, sym}
use mathlib.Core.Bool.{Bool, false, true}
use mathlib.Core.List.{List, ◌∷◌}
use lib.Dec.{eqb}
use lib.ListN.{get_or, length, length-set, set}
use lib.Seq.{get_or-set_other, get_or-set_same}
use borrow.Author.Tests.{eqb-false, eqb-true}
use Rattle.words.specs.Words.{Bytes, at, plain, shared, word}
use Rattle.words.specs.Rising.{nth}
use Rattle.words.proofs.Words.{shared-comm, shared-le}
use Rattle.thin.specs.Edges.{Edge, Fits, Frame, Inside, Lower, Open}
use Rattle.thin.specs.Frames.{CloseAsk, CloseSays, Ends, GrowAsk, GrowSays, TopSays, frames_in, in-it, not_in, place_count, words_by}
use Rattle.thin.specs.declared.Closed.{Closed}
use Rattle.thin.proofs.Edges.{edge_few, leaf-under, more_by, more-in, push-by, push-in}

-- ---- `is_deepest`

pub top-none : (ds : List ℕ) (t h : ℕ) → t ≡ 0 → TopSays ds t h false
top-none ds t h e = λ l i. lt_irrefl 0 (omega arith)

pub top-says : (ds : List ℕ) (t h : ℕ) → (t ≡ 0 → ⊥) → (d : ℕ) → d ≡ get_or ds (t - 1) 0 → TopSays ds t h (eqb d h)
top-says ds t h n d de = go (eqb d h) refl
  where
    there : t - 1 ≡ pred t
    there = omega arith

    go : (r : Bool) → eqb d h ≡ r → TopSays ds t h r
    go true e = (omega (arith, n), ap (λ (i : ℕ). get_or ds i 0) (sym there) ∙ sym de ∙ eqb-true d h e)
    go false e = λ l i. eqb-false d h e (de ∙ ap (λ (j : ℕ). get_or ds j 0) there ∙ i)

-- .. where it has
pub top-is : (ds : List ℕ) (t h : ℕ) → TopSays ds t h true → (1 ≤ t) × (get_or ds (t - 1) 0 ≡ h)
top-is ds t h s = let there : t - 1 ≡ pred t = omega arith in (omega (arith, s.0), ap (λ (i : ℕ). get_or ds i 0) there ∙ s.1)

-- ---- the rows

-- the first t numbers are the same in both
abbrev Same : List ℕ → List ℕ → ℕ → Type 0
Same ds es t = (j : ℕ) → j < t → get_or es j 0 ≡ get_or ds j 0

pub frames-kept : (ds es cs xs ps rs : List ℕ) (t : ℕ) → Same ds es t → Same cs xs t → Same ps rs t → frames_in es xs rs t ≡ frames_in ds cs ps t
unfolding frames_in
frames-kept ds es cs xs ps rs zero x y z = refl
frames-kept ds es cs xs ps rs (suc t) x y z =
    rw (x t (omega arith), y t (omega arith), z t (omega arith), frames-kept ds es cs xs ps rs t (λ j l. x j (omega arith)) (λ j l. y j (omega arith)) (λ j l. z j (omega arith))) refl

set-kept : (ds : List ℕ) (t x : ℕ) → Same ds (set ds t x) t
set-kept ds t x j l = get_or-set_other ds t j x 0 (λ e. lt_irrefl t (omega arith))

frames-count : (ds cs ps : List ℕ) (t : ℕ) → length (frames_in ds cs ps t) ≡ t
unfolding frames_in
frames-count ds cs ps zero = refl
frames-count ds cs ps (suc t) = ap suc (frames-count ds cs ps t)

-- ---- `grow`

module _ {b question name ds cs ps : Bytes} {forks c h : ℕ} (a : GrowAsk b question name ds cs ps forks c h) where
  abbrev q : List ℕ
  q = word plain question

  pub grow-close : CloseAsk b question name ds cs ps forks c (h + 1)
  grow-close = record { standing = a.standing; low = omega (arith, a.parts, shared-le (nth (words_by b) c) (nth (words_by b) (suc c))) }

  -- the name that comes in has h symbols
  next-long : h ≤ length (nth (words_by b) (suc c))
  next-long = omega (arith, a.parts, shared-comm (nth (words_by b) c) (nth (words_by b) (suc c)), shared-le (nth (words_by b) (suc c)) (nth (words_by b) c))

  module _ {r : Closed} (s : CloseSays b question ds cs ps forks c (h + 1) r) where
    few-left : r.forks ≤ place_count
    few-left = omega (arith, s.fewer, a.standing.few)

    -- what has ended goes the question's way where the name at hand does
    fits-first : {d : ℕ} → at (nth (words_by b) c) d ≡ at (nth (words_by b) r.first) d → Fits q (word plain name) d → Fits q (nth (words_by b) r.first) d
    fits-first {d} e f = record { long = f.long; same = sym e ∙ ap (λ (x : List ℕ). at x d) (sym a.standing.name-is) ∙ f.same }

    fits-name : {d : ℕ} → at (nth (words_by b) c) d ≡ at (nth (words_by b) r.first) d → Fits q (nth (words_by b) r.first) d → Fits q (word plain name) d
    fits-name {d} e f = record { long = f.long; same = ap (λ (x : List ℕ). at x d) a.standing.name-is ∙ e ∙ f.same }

    -- ---- a child of the deepest fork

    module _ {top : ℕ} (te : r.forks ≡ suc top) (de : get_or ds top 0 ≡ h) {before : ℕ} (be : before ≡ get_or ps top 0) where
      abbrev above : List Frame
      above = frames_in ds cs ps top

      abbrev deepest : ℕ → Frame
      deepest p = record { depth = get_or ds top 0; first = get_or cs top 0; reach = p }

      here : Open q (words_by b) (deepest (get_or ps top 0) ∷ above) r.first (suc c) r.reach
      unfolding frames_in
      here = subst (λ (n : ℕ). Open q (words_by b) (frames_in ds cs ps n) r.first (suc c) r.reach) te s.left

      same : at (nth (words_by b) c) (get_or ds top 0) ≡ at (nth (words_by b) r.first) (get_or ds top 0)
      same = (here.inside c (omega (arith, here.some)) (omega arith)).1

      parts : shared (nth (words_by b) c) (nth (words_by b) (suc c)) ≡ get_or ds top 0
      parts = sym a.parts ∙ sym de

      module _ {x : ℕ} (ended : Ends q (word plain name) h r.reach before x) where
        edge_by : Ends q (word plain name) h r.reach before x → Edge q (words_by b) (deepest x ∷ above) (suc c)
        edge_by (in-it f is) =
            subst (λ (p : ℕ). Edge q (words_by b) (deepest p ∷ above) (suc c)) (sym is)
            (more-in q (words_by b) a.standing.rises here a.next parts (fits-first same (subst (Fits q (word plain name)) (sym de) f)))
        edge_by (not_in f is) =
            subst (λ (p : ℕ). Edge q (words_by b) (deepest p ∷ above) (suc c)) (sym (is ∙ be))
            (more_by q (words_by b) a.standing.rises here a.next parts (λ g. f (subst (Fits q (word plain name)) de (fits-name same g))))

        stored : deepest x ∷ above ≡ frames_in ds cs (set ps top x) r.forks
        unfolding frames_in
        stored =
            ap₂ (λ (p : ℕ) (fs : List Frame). deepest p ∷ fs) (sym (get_or-set_same ps top x 0 (omega (arith, few-left, a.standing.rows.reaches))))
            (sym (frames-kept ds ds cs cs ps (set ps top x) top (λ j l. refl) (λ j l. refl) (set-kept ps top x)))
            ∙ ap (frames_in ds cs (set ps top x)) (sym te)

        pub grow-child : GrowSays b question ds cs (set ps top x) c r.forks
        grow-child = record {
          rows = record { depths = a.standing.rows.depths; firsts = a.standing.rows.firsts; reaches = length-set ps top x ∙ a.standing.rows.reaches };
          few = few-left;
          edge = subst (λ (fs : List Frame). Edge q (words_by b) fs (suc c)) stored (edge_by ended);
          inside = subst (λ (fs : List Frame). Inside (words_by b) fs (suc c) (suc (suc c))) stored (leaf-under q (words_by b) a.standing.rises (omega (arith, de, next-long)));
        }

    -- ---- a fork that opens

    module _ (none : TopSays ds r.forks h false) where
      lower : Lower (frames_in ds cs ps r.forks) h
      unfolding frames_in
      lower = go r.forks s.lower none
        where
          go : (t : ℕ) → Lower (frames_in ds cs ps t) (h + 1) → TopSays ds t h false → Lower (frames_in ds cs ps t) h
          go zero l n = tt
          go (suc t) l n = omega (arith, l, n (omega arith))

      pub grow-room : r.forks < place_count
      unfolding frames_in
      grow-room = go r.forks s.left.edge lower
        where
          go : (t : ℕ) → Edge q (words_by b) (frames_in ds cs ps t) r.first → Lower (frames_in ds cs ps t) h → t < place_count
          go zero e l = omega arith
          go (suc t) e l = omega (arith, edge_few q (words_by b) a.standing.rises e, frames-count ds cs ps t, l, a.short)

      wide : (j : ℕ) → r.first ≤ j → j < suc c → (h ≤ shared (nth (words_by b) r.first) (nth (words_by b) j)) × (at (nth (words_by b) j) h ≡ at (nth (words_by b) r.first) h)
      wide = s.wide h (omega arith)

      abbrev opened : ℕ → Frame
      opened p = record { depth = h; first = r.first; reach = p }

      module _ {x : ℕ} (ended : Ends q (word plain name) h r.reach r.first x) where
        push-edge : Ends q (word plain name) h r.reach r.first x → Edge q (words_by b) (opened x ∷ frames_in ds cs ps r.forks) (suc c)
        push-edge (in-it f is) =
            subst (λ (p : ℕ). Edge q (words_by b) (opened p ∷ frames_in ds cs ps r.forks) (suc c)) (sym is)
            (push-in q (words_by b) a.standing.rises s.left a.next (sym a.parts) lower wide (fits-first (wide c (omega (arith, s.left.some)) (omega arith)).1 f))
        push-edge (not_in f is) =
            subst (λ (p : ℕ). Edge q (words_by b) (opened p ∷ frames_in ds cs ps r.forks) (suc c)) (sym is)
            (push-by q (words_by b) a.standing.rises s.left a.next (sym a.parts) lower wide (λ g. f (fits-name (wide c (omega (arith, s.left.some)) (omega arith)).1 g)))

        pushed : opened x ∷ frames_in ds cs ps r.forks ≡ frames_in (set ds r.forks h) (set cs r.forks r.first) (set ps r.forks x) (r.forks + 1)
        unfolding frames_in
        pushed =
            let t = r.forks in
            let one : t + 1 ≡ suc t = omega arith in
            rw (
              one,
              get_or-set_same ds t h 0 (omega (arith, grow-room, a.standing.rows.depths)),
              get_or-set_same cs t r.first 0 (omega (arith, grow-room, a.standing.rows.firsts)),
              get_or-set_same ps t x 0 (omega (arith, grow-room, a.standing.rows.reaches)),
              frames-kept ds (set ds t h) cs (set cs t r.first) ps (set ps t x) t (set-kept ds t h) (set-kept cs t r.first) (set-kept ps t x),
            ) refl

        pub grow-push : GrowSays b question (set ds r.forks h) (set cs r.forks r.first) (set ps r.forks x) c (r.forks + 1)
        grow-push = record {
          rows = record {
            depths = length-set ds r.forks h ∙ a.standing.rows.depths;
            firsts = length-set cs r.forks r.first ∙ a.standing.rows.firsts;
            reaches = length-set ps r.forks x ∙ a.standing.rows.reaches;
          };
          few = omega (arith, grow-room);
          edge = subst (λ (fs : List Frame). Edge q (words_by b) fs (suc c)) pushed (push-edge ended);
          inside = subst (λ (fs : List Frame). Inside (words_by b) fs (suc c) (suc (suc c))) pushed (leaf-under q (words_by b) a.standing.rises (omega (arith, next-long)));
        }
