-- The open forks as rows of numbers, one name further.
--     ends-..                   a depth that is past the question's end; the two symbols decide
--     frames-top                the deepest of some forks
--     Closing, closing-..       the loop of `close`: how it begins, what a turn leaves, and how it ends
-- Assumes nothing.
use Prim.Native.Nat.{ℕ, suc, ◌+◌, ◌-◌, ◌≤◌, ◌<◌}
use native.Mathlib.Nat.{lt_irrefl}
use native.Mathlib.Omega.{arith}
use mathlib.Core.Path.{◌≡◌, ◌∙◌, ap, refl, subst, sym}
use mathlib.Core.List.{List, ◌∷◌}
use lib.ListN.{get_or, length, length-map}
use Rattle.words.specs.Words.{Bytes, at, plain, word}
use Rattle.words.specs.Rising.{nth}
use Rattle.thin.specs.Edges.{Fits, Frame, Lower, Open, Under}
use Rattle.thin.specs.Frames.{CloseAsk, CloseSays, Ends, Wide, frames_in, in-it, not_in, words_by}
use Rattle.thin.proofs.Edges.{close-by, close-in, leaf-under, open-leaf, open-wide}

-- ---- `ends`

module _ (q x : Bytes) (d child before : ℕ) where
  pub ends-short : length q < d → Ends (word plain q) (word plain x) d child before before
  ends-short h = not_in (λ f. lt_irrefl d (omega (arith, f.long, length-map q plain))) refl

  module _ (h : d ≤ length q) (s t : ℕ) (se : s ≡ at (word plain x) (d - 0)) (te : t ≡ at (word plain q) (d - 0)) where
    there : d - 0 ≡ d
    there = omega arith

    pub ends-child : s ≡ t → Ends (word plain q) (word plain x) d child before child
    ends-child e = in-it (record {
      long = omega (arith, length-map q plain);
      same = ap (at (word plain x)) (sym there) ∙ sym se ∙ e ∙ te ∙ ap (at (word plain q)) there;
    }) refl

    pub ends-other : (s ≡ t → ⊥) → Ends (word plain q) (word plain x) d child before before
    ends-other n = not_in (λ f. n (se ∙ ap (at (word plain x)) there ∙ f.same ∙ ap (at (word plain q)) (sym there) ∙ sym te)) refl

-- ---- `close`

-- the deepest fork
abbrev frame_at : List ℕ → List ℕ → List ℕ → ℕ → Frame
frame_at ds cs ps t = record { depth = get_or ds t 0; first = get_or cs t 0; reach = get_or ps t 0 }

frames-top : (ds cs ps : List ℕ) {t top : ℕ} → t ≡ suc top → frames_in ds cs ps t ≡ frame_at ds cs ps top ∷ frames_in ds cs ps top
unfolding frames_in
frames-top ds cs ps e = ap (frames_in ds cs ps) e

pub record Closing (b question ds cs ps : Bytes) (forks c limit t first reach : ℕ) : Type 0 where
  pub fewer : t ≤ forks
  pub left : Open (word plain question) (words_by b) (frames_in ds cs ps t) first (suc c) reach
  pub wide : Wide (words_by b) limit first (suc c)

module _ {b question name ds cs ps : Bytes} {forks c limit : ℕ} (a : CloseAsk b question name ds cs ps forks c limit) where
  pub closing-first : Closing b question ds cs ps forks c limit forks c c
  closing-first =
      let s = a.standing in
      record {
        fewer = omega arith;
        left = open-leaf (word plain question) (words_by b) s.rises s.edge s.inside s.within;
        wide = λ e is. leaf-under (word plain question) (words_by b) s.rises (omega (arith, a.low));
      }

  module _ {t first reach : ℕ} (k : Closing b question ds cs ps forks c limit t first reach) where
    pub closing-none : t ≡ 0 → CloseSays b question ds cs ps forks c limit (record { forks = 0; first = first; reach = reach })
    unfolding frames_in
    closing-none e = subst (λ (n : ℕ). CloseSays b question ds cs ps forks c limit (record { forks = n; first = first; reach = reach })) e (record {
      fewer = k.fewer;
      left = k.left;
      lower = subst (λ (n : ℕ). Lower (frames_in ds cs ps n) limit) (sym e) tt;
      wide = k.wide;
    })

    module _ {top d : ℕ} (e : t ≡ suc top) (de : d ≡ get_or ds top 0) where
      pub closing-left : d < limit → CloseSays b question ds cs ps forks c limit (record { forks = top + 1; first = first; reach = reach })
      unfolding frames_in
      closing-left h =
          let one : t ≡ top + 1 = omega (arith, e) in
          subst (λ (n : ℕ). CloseSays b question ds cs ps forks c limit (record { forks = n; first = first; reach = reach })) one (record {
            fewer = k.fewer;
            left = k.left;
            lower = subst (λ (n : ℕ). Lower (frames_in ds cs ps n) limit) (sym e) (omega arith);
            wide = k.wide;
          })

      here : Open (word plain question) (words_by b) (frame_at ds cs ps top ∷ frames_in ds cs ps top) first (suc c) reach
      here = subst (λ (fs : List Frame). Open (word plain question) (words_by b) fs first (suc c) reach) (frames-top ds cs ps e) k.left

      -- the last name has the symbol of the open child's first
      same : at (word plain name) d ≡ at (nth (words_by b) first) d
      same =
          ap (λ (x : List ℕ). at x d) a.standing.name-is
          ∙ subst (λ (n : ℕ). at (nth (words_by b) c) n ≡ at (nth (words_by b) first) n) (sym de) (here.inside c (omega (arith, here.some)) (omega arith)).1

      module _ (h : limit ≤ d) {x : ℕ} (xe : x ≡ get_or cs top 0) where
        on : {r : ℕ} → Open (word plain question) (words_by b) (frames_in ds cs ps top) (get_or cs top 0) (suc c) r → Closing b question ds cs ps forks c limit top x r
        on {r} o = record {
          fewer = omega (arith, k.fewer);
          left = subst (λ (n : ℕ). Open (word plain question) (words_by b) (frames_in ds cs ps top) n (suc c) r) (sym xe) o;
          wide = λ i is. subst (λ (n : ℕ). Under (words_by b) i n (suc c)) (sym xe) (open-wide (word plain question) (words_by b) a.standing.rises here (omega arith));
        }

        pub closing-on : {p r : ℕ} → p ≡ get_or ps top 0 → Ends (word plain question) (word plain name) d reach p r → Closing b question ds cs ps forks c limit top x r
        closing-on {p} {r} pe (in-it f is) =
            subst (λ (n : ℕ). Closing b question ds cs ps forks c limit top x n) (sym is)
            (on (close-in (word plain question) (words_by b) a.standing.rises here
            (subst (Fits (word plain question) (nth (words_by b) first)) de (record { long = f.long; same = sym same ∙ f.same }))))
        closing-on {p} {r} pe (not_in f is) =
            subst (λ (n : ℕ). Closing b question ds cs ps forks c limit top x n) (sym (is ∙ pe))
            (on (close-by (word plain question) (words_by b) a.standing.rises here
            (λ g. let i = subst (Fits (word plain question) (nth (words_by b) first)) (sym de) g in f (record { long = i.long; same = same ∙ i.same }))))
