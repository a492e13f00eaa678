-- Document 02, CR 6: the union of lists of names does not depend on the order in which they are put together, over any lawful rule. As words;
-- and as names where names with equal words are one name, as under document 01's rule.
--     word-left, word-right, word-either     a word is one of the union's just where it is one of the two lists'
--     words-commute, words-associate, merged-self     the three laws, by what is in the lists and that they rise
--     merged-commutes, merged-associates     the same of names
-- Assumes nothing.
use Prim.Native.Nat.{ℕ}
use mathlib.Core.Path.{◌≡◌, refl, ap, ◌∙◌}
use mathlib.Core.Logic.{◌⊎◌, inl, inr, ⊎_elim}
use mathlib.Core.Bool.{true}
use mathlib.Core.List.Memᴰ
use mathlib.Core.List.{List, Memᴰ as Among, [], ◌∷◌, map}
use Rattle.words.specs.Words.{Bytes, Rule, word}
use Rattle.words.specs.Rising.{Sure}
use Rattle.words.proofs.Members.{map_injective, among-map, rising-unique, unmapped}
use Rattle.format.specs.Merging.{merged}
use Rattle.format.specs.Records.{rising}
use Rattle.format.proofs.Merging.{among-either, among-left, among-word, merged-both, merged-rises, rising-only}
use Rattle.format.proofs.Records.{rising-first, rising-rises}

module _ (ρ : Rule) (ok : Sure ρ) where
  abbrev Rising : List Bytes → Type 0
  Rising xs = rising ρ [] xs ≡ true

  abbrev In : List ℕ → List Bytes → Type 0
  In w xs = Among w (map (word ρ) xs)

  -- ---- whose words are in it

  module _ (w : List ℕ) (xs ys : List Bytes) where
    pub word-left : In w xs → In w (merged ρ xs ys)
    word-left m = let s = unmapped (word ρ) xs m in Memᴰ.cast s.is (among-map (word ρ) (among-left ρ xs ys s.member))

    pub word-right : In w ys → In w (merged ρ xs ys)
    word-right m =
        let s = unmapped (word ρ) ys m in
        let t = among-word ρ ok xs ys s.member in
        Memᴰ.cast (s.is ∙ t.is) (among-map (word ρ) t.member)

    pub word-either : In w (merged ρ xs ys) → In w xs ⊎ In w ys
    word-either m =
        let s = unmapped (word ρ) (merged ρ xs ys) m in
        ⊎_elim (λ k. inl (Memᴰ.cast s.is (among-map (word ρ) k))) (λ k. inr (Memᴰ.cast s.is (among-map (word ρ) k))) (among-either ρ xs ys s.member)

  -- rising names with the same words have their words in the same order
  same-words : (xs ys : List Bytes) → Rising xs → Rising ys → ((w : List ℕ) → In w xs → In w ys) → ((w : List ℕ) → In w ys → In w xs) → map (word ρ) xs ≡ map (word ρ) ys
  same-words xs ys r t f g = rising-unique (map (word ρ) xs) (map (word ρ) ys) (rising-rises ρ ok [] xs r).1 (rising-rises ρ ok [] ys t).1 f g

  -- ---- the three laws

  pub words-commute : (xs ys : List Bytes) → Rising xs → Rising ys → map (word ρ) (merged ρ xs ys) ≡ map (word ρ) (merged ρ ys xs)
  words-commute xs ys r t = same-words (merged ρ xs ys) (merged ρ ys xs) (merged-rises ρ ok xs ys r t) (merged-rises ρ ok ys xs t r) (swap xs ys) (swap ys xs)
    where
      swap : (us vs : List Bytes) (w : List ℕ) → In w (merged ρ us vs) → In w (merged ρ vs us)
      swap us vs w m = ⊎_elim (word-right w vs us) (word-left w vs us) (word-either w us vs m)

  pub words-associate : (xs ys zs : List Bytes) → Rising xs → Rising ys → Rising zs → map (word ρ) (merged ρ (merged ρ xs ys) zs) ≡ map (word ρ) (merged ρ xs (merged ρ ys zs))
  words-associate xs ys zs r t u =
      same-words (merged ρ (merged ρ xs ys) zs) (merged ρ xs (merged ρ ys zs)) (merged-rises ρ ok (merged ρ xs ys) zs (merged-rises ρ ok xs ys r t) u)
      (merged-rises ρ ok xs (merged ρ ys zs) r (merged-rises ρ ok ys zs t u)) onward back
    where
      onward : (w : List ℕ) → In w (merged ρ (merged ρ xs ys) zs) → In w (merged ρ xs (merged ρ ys zs))
      onward w m =
          ⊎_elim (λ k. ⊎_elim (word-left w xs (merged ρ ys zs)) (λ l. word-right w xs (merged ρ ys zs) (word-left w ys zs l)) (word-either w xs ys k))
          (λ k. word-right w xs (merged ρ ys zs) (word-right w ys zs k)) (word-either w (merged ρ xs ys) zs m)

      back : (w : List ℕ) → In w (merged ρ xs (merged ρ ys zs)) → In w (merged ρ (merged ρ xs ys) zs)
      back w m =
          ⊎_elim (λ k. word-left w (merged ρ xs ys) zs (word-left w xs ys k))
          (λ k. ⊎_elim (λ l. word-left w (merged ρ xs ys) zs (word-right w xs ys l)) (word-right w (merged ρ xs ys) zs) (word-either w ys zs k)) (word-either w xs (merged ρ ys zs) m)

  pub merged-self : (xs : List Bytes) → Rising xs → merged ρ xs xs ≡ xs
  unfolding merged
  merged-self [] r = refl
  merged-self (x ∷ xs) r =
      let f = rising-first ρ [] x xs r in
      merged-both ρ x x xs xs refl f.rest ∙ ap (λ (l : List Bytes). x ∷ l) (merged-self xs (rising-only ρ ok x xs f.rest))

  -- ---- of names

  module _ (one : (a b : Bytes) → word ρ a ≡ word ρ b → a ≡ b) where
    pub merged-commutes : (xs ys : List Bytes) → Rising xs → Rising ys → merged ρ xs ys ≡ merged ρ ys xs
    merged-commutes xs ys r t = map_injective (word ρ) one (merged ρ xs ys) (merged ρ ys xs) (words-commute xs ys r t)

    pub merged-associates : (xs ys zs : List Bytes) → Rising xs → Rising ys → Rising zs → merged ρ (merged ρ xs ys) zs ≡ merged ρ xs (merged ρ ys zs)
    merged-associates xs ys zs r t u = map_injective (word ρ) one (merged ρ (merged ρ xs ys) zs) (merged ρ xs (merged ρ ys zs)) (words-associate xs ys zs r t u)
