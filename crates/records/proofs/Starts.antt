-- Where the records of a judged list begin, and what stands there.
--     start_none, start-next, start-all    record by record
--     start-within                         no record begins behind the list
--     start_fits, start-name               the name behind the length byte
--     start-byte                           the length byte
--     ready-rises, ready-word, ready-size  the names' words
-- Assumes nothing.
use Prim.Native.Nat.{ℕ, suc, ◌+◌, ◌≤◌, ◌<◌}
use native.Mathlib.Omega.{arith}
use mathlib.Core.Path.{◌≡◌, refl, sym, ap, ◌∙◌, subst}
use mathlib.Core.List.{List, [], ◌∷◌, ◌++◌, append-nil}
use lib.ListN.{length, get_or, take, drop, length-append, length-map, take-append-drop}
use lib.Seq.{get_or-drop, take-suc, take_all}
use Rattle.words.specs.Rising.{Rises, nth}
use Rattle.words.specs.Words.{Bytes, Rule, word}
use Rattle.words.proofs.Lists.{all-at}
use Rattle.words.proofs.Rising.{nth-word}
use Rattle.format.specs.Records.{encode}
use Rattle.format.proofs.Records.{encode-append, encode-fits, encode-from, encode-name, rising-sizes, sound-rises, sound-rising}
use Rattle.records.specs.Lists.{Ready, names, start_of, words}

encode_one : (x : Bytes) → encode (x ∷ []) ≡ length x ∷ x
unfolding encode
encode_one x = ap (λ (l : Bytes). length x ∷ l) (append-nil x)

pub words-length : (ρ : Rule) (s : Bytes) → length (words ρ s) ≡ length (names s)
unfolding words
words-length ρ s = length-map (names s) (word ρ)

module _ {ρ : Rule} {s : Bytes} {n : ℕ} {lens counts shares : List ℕ} (a : Ready ρ s n lens counts shares) where
  pub ready-rises : Rises (words ρ s)
  unfolding words
  ready-rises = sound-rises ρ a.lawful (names s) a.sound

  pub ready-word : (i : ℕ) → nth (words ρ s) i ≡ word ρ (get_or (names s) i [])
  unfolding words
  ready-word i = nth-word ρ (names s) i

  pub ready-size : (i : ℕ) → i < n → (1 ≤ length (get_or (names s) i [])) × (length (get_or (names s) i []) ≤ 200)
  ready-size i h = all-at [] (names s) (rising-sizes ρ [] (names s) (sound-rising ρ (names s) a.sound)) i (omega (arith, a.total))

  pub start_none : start_of s 0 ≡ 0
  unfolding encode
  start_none = refl

  pub start-all : start_of s n ≡ length s
  start-all = ap (λ (xs : List Bytes). length (encode xs)) (take_all n (names s) (omega (arith, a.total))) ∙ ap length a.bytes

  pub start-within : (i : ℕ) → start_of s i ≤ length s
  start-within i =
      omega (
        arith,
        ap length (sym a.bytes),
        ap (λ (xs : List Bytes). length (encode xs)) (sym (take-append-drop i (names s))),
        ap length (encode-append (take i (names s)) (drop i (names s))),
        length-append (encode (take i (names s))) (encode (drop i (names s))),
      )

  module _ (i : ℕ) (h : i < n) where
    x : Bytes
    x = get_or (names s) i []

    inside : i < length (names s)
    inside = omega (arith, a.total)

    pub start-next : start_of s (suc i) ≡ start_of s i + 1 + length (get_or (names s) i [])
    start-next =
        ap (λ (xs : List Bytes). length (encode xs)) (take-suc (names s) i [] inside) ∙ ap length (encode-append (take i (names s)) (get_or (names s) i [] ∷ []))
        ∙ length-append (encode (take i (names s))) (encode (get_or (names s) i [] ∷ [])) ∙ omega (arith, ap length (encode_one (get_or (names s) i [])))

    -- the list from record i on
    from-here : drop (start_of s i) s ≡ length (get_or (names s) i []) ∷ get_or (names s) i [] ++ encode (drop (suc i) (names s))
    from-here = subst (λ (l : Bytes). drop (start_of s i) l ≡ length (get_or (names s) i []) ∷ get_or (names s) i [] ++ encode (drop (suc i) (names s))) a.bytes (encode-from (names s) i inside)

    pub start_fits : start_of s i + 1 + length (get_or (names s) i []) ≤ length s
    start_fits = omega (arith, encode-fits (names s) i inside, ap length a.bytes)

    pub start-name : take (length (get_or (names s) i [])) (drop (start_of s i + 1) s) ≡ get_or (names s) i []
    start-name = subst (λ (l : Bytes). take (length (get_or (names s) i [])) (drop (start_of s i + 1) l) ≡ get_or (names s) i []) a.bytes (encode-name (names s) i inside)

    pub start-byte : get_or s (start_of s i) 0 ≡ length (get_or (names s) i [])
    start-byte =
        let z : start_of s i + 0 ≡ start_of s i = omega arith in
        ap (λ (k : ℕ). get_or s k 0) (sym z) ∙ sym (get_or-drop (start_of s i) s 0 0) ∙ ap (λ (l : Bytes). get_or l 0 0) from-here
