-- Document 02, CR 13: names with one more, and with one less.
--     seat-on, seat-here        where a name stands, by the first of the others
--     with-on, with-here, without_on, without-here     the changed names, by the first of them
--     Absent, absent    no other name is that one, by the rule; as the question says
--     with-rising, without-rising, with-length, without-length, with-sound, without-sound     changed names rise, and are names that a list can have
--     with-without      a name that goes in and out again leaves the others as they were
--     stored, There, is-there, without-with     a name that goes out and, as it was spelt, in again does, too
--     with-own, with-other, with-either     whose names are in it
--     with-there, absent-with, with_two     a name that went in is there; two names go in in either order
--     with-before, with-seat, with-behind, without-before, without-behind     which name stands where
-- Assumes nothing.
use Prim.Native.Nat.{ℕ, suc, ◌+◌, ◌-◌, ◌≤◌, ◌<◌}
use native.Mathlib.Nat.{not-suc-le-zero}
use native.Mathlib.Omega.{arith}
use mathlib.Core.Path.{◌≡◌, refl, sym, ap, ap₂, ◌∙◌, subst}
use mathlib.Core.Bool.{Bool, false, true}
use mathlib.Core.Logic.{◌⊎◌, inl, inr}
use mathlib.Core.List.Memᴰ
use mathlib.Core.List.Memᴰ.{head as here}
use mathlib.Core.List.Memᴰ.{tail as there}
use mathlib.Core.List.{List, Memᴰ as Among, [], ◌∷◌, ◌++◌, map}
use lib.Dec.{eqb, ltb}
use lib.ListN.{drop, get_or, length, length-append, length-drop, length-map, take, take-append-drop}
use lib.Seq.{get_or-append-add, get_or_at, get_or-drop, get_or-take, length-take-le, take_at}
use borrow.Author.Tests.{le-leb, lt-ltb, ltb-true}
use Rattle.words.specs.Rising.{All, Rises, Sure, cons, nil, nth, rise}
use Rattle.words.specs.Words.{Bytes, Rule, Words, both, less, pick, same, word}
use Rattle.words.proofs.Lists.{all_map}
use Rattle.words.proofs.Rising.{nth-word}
use Rattle.words.proofs.Members.{all-member}
use Rattle.revise.proofs.Unique.{unique-by}
use Rattle.words.proofs.Words.{Ordered, both_true, equal, false≠true, greater, less-asym, less-irrefl, less-start, less-trans, lesser, ordered, same_refl, same_true, word-positive}
use Rattle.format.specs.Records.{good_length, most_names, rising, sound}
use Rattle.format.proofs.Records.{First, rising-first, rising-rises, sound-few, sound-rising}
use Rattle.answers.specs.Questions.{Pair, count, exact, exact_from, place}
use Rattle.revise.specs.Revising.{is_there, seat, with_name, without_name}
use Rattle.answers.proofs.Places.{count_none, exact-place, place-le}

-- nothing is below every name
pub above-nothing : (ρ : Rule) → Sure ρ → (z : Bytes) → good_length (length z) ≡ true → less (word ρ []) (word ρ z) ≡ true
above-nothing ρ ok [] g = absurd (false≠true g)
above-nothing ρ ok (b ∷ z) g = less-start (ρ b) (word ρ z) ∙ lt-ltb 0 (ρ b) (ok.low b)

module _ (ρ : Rule) (ok : Sure ρ) (x : Bytes) where
  abbrev Below : Bytes → Bool → Type 0
  Below y t = less (word ρ y) (word ρ x) ≡ t

  pub seat-on : (y : Bytes) (ys : List Bytes) → Below y true → seat ρ x (y ∷ ys) ≡ suc (seat ρ x ys)
  unfolding place count
  seat-on y ys h = rw h refl

  pub seat-here : (y : Bytes) (ys : List Bytes) → Rises (map (word ρ) (y ∷ ys)) → Below y false → seat ρ x (y ∷ ys) ≡ 0
  unfolding place count
  seat-here y ys (rise p a r) h = rw h (count_none (λ w. less w (word ρ x)) (map (word ρ) ys) (all_map (λ v k. not-below v k) a))
    where
      not-below : (v : List ℕ) → less (word ρ y) v ≡ true → less v (word ρ x) ≡ false
      not-below v k = go (less v (word ρ x)) refl
        where
          go : (t : Bool) → less v (word ρ x) ≡ t → t ≡ false
          go false e = refl
          go true e = absurd (false≠true (sym h ∙ less-trans (word ρ y) v (word ρ x) k e))

  pub with-on : (y : Bytes) (ys : List Bytes) → Below y true → with_name ρ x (y ∷ ys) ≡ y ∷ with_name ρ x ys
  unfolding with_name
  with-on y ys h = ap (λ (p : ℕ). take p (y ∷ ys) ++ (x ∷ drop p (y ∷ ys))) (seat-on y ys h)

  pub with-here : (y : Bytes) (ys : List Bytes) → Rises (map (word ρ) (y ∷ ys)) → Below y false → with_name ρ x (y ∷ ys) ≡ x ∷ y ∷ ys
  unfolding with_name
  with-here y ys r h = ap (λ (p : ℕ). take p (y ∷ ys) ++ (x ∷ drop p (y ∷ ys))) (seat-here y ys r h)

  pub without_on : (y : Bytes) (ys : List Bytes) → Below y true → without_name ρ x (y ∷ ys) ≡ y ∷ without_name ρ x ys
  unfolding without_name
  without_on y ys h = ap (λ (p : ℕ). take p (y ∷ ys) ++ drop (suc p) (y ∷ ys)) (seat-on y ys h)

  pub without-here : (y : Bytes) (ys : List Bytes) → Rises (map (word ρ) (y ∷ ys)) → Below y false → without_name ρ x (y ∷ ys) ≡ ys
  unfolding without_name
  without-here y ys r h = ap (λ (p : ℕ). take p (y ∷ ys) ++ drop (suc p) (y ∷ ys)) (seat-here y ys r h)

  -- no name has the word of x
  abbrev pub Absent : List Bytes → Type 0
  Absent xs = All (λ y. word ρ y ≡ word ρ x → ⊥) xs

  -- .. as the question says, whatever the first position is
  absent-from : (i : ℕ) (ys : List Bytes) → eqb (exact_from i (word ρ x) (map (word ρ) ys)).1 1 ≡ false → Absent ys
  unfolding exact_from
  absent-from i [] e = nil
  absent-from i (y ∷ ys) e = go (same (word ρ y) (word ρ x)) refl e (λ k. absent-from (suc i) ys k)
    where
      go : (t : Bool) → same (word ρ y) (word ρ x) ≡ t → eqb (pick t (i, 1) (exact_from (suc i) (word ρ x) (map (word ρ) ys))).1 1 ≡ false
          → (eqb (exact_from (suc i) (word ρ x) (map (word ρ) ys)).1 1 ≡ false → Absent ys) → Absent (y ∷ ys)
      go true q k more = absurd (false≠true (sym k))
      go false q k more = cons (λ z. false≠true (sym q ∙ ap (λ (w : List ℕ). same w (word ρ x)) z ∙ same_refl (word ρ x))) (more k)

  pub absent : (xs : List Bytes) → is_there ρ x xs ≡ false → Absent xs
  unfolding exact
  absent xs h = absent-from 0 xs h

  -- ---- changed names rise

  rises-behind : (prev : Bytes) (xs : List Bytes) → rising ρ prev xs ≡ true → Rises (map (word ρ) xs)
  rises-behind prev xs h = (rising-rises ρ ok prev xs h).1

  pub with-rising : good_length (length x) ≡ true → (prev : Bytes) (xs : List Bytes) → rising ρ prev xs ≡ true → less (word ρ prev) (word ρ x) ≡ true → Absent xs → rising ρ prev (with_name ρ x xs) ≡ true
  unfolding rising with_name place count
  with-rising good prev [] h l a = rw (good, l) refl
  with-rising good prev (y ∷ ys) h l (cons n a) =
      go (ordered (word ρ y) (word ρ x) (word-positive ρ ok y) (word-positive ρ ok x)) (λ k. with-rising good y ys (rising-first ρ prev y ys h).rest k a)
    where
      f : First ρ prev y ys
      f = rising-first ρ prev y ys h

      go : Ordered (word ρ y) (word ρ x) → (Below y true → rising ρ y (with_name ρ x ys) ≡ true) → rising ρ prev (with_name ρ x (y ∷ ys)) ≡ true
      go (lesser k) more = ap (rising ρ prev) (with-on y ys k) ∙ rw (f.size, f.above) (more k)
      go (equal e) more = absurd (n e)
      go (greater k) more = ap (rising ρ prev) (with-here y ys (rises-behind prev (y ∷ ys) h) (less-asym (word ρ x) (word ρ y) k)) ∙ rw (good, l, f.size, k) f.rest

  -- names that rise behind a name rise behind what is below it
  rising-below : (prev : Bytes) (y : Bytes) (ys : List Bytes) → rising ρ prev (y ∷ ys) ≡ true → rising ρ prev ys ≡ true
  unfolding rising
  rising-below prev y [] h = refl
  rising-below prev y (z ∷ zs) h =
      let f = rising-first ρ prev y (z ∷ zs) h in
      let g = rising-first ρ y z zs f.rest in
      rw (g.size, less-trans (word ρ prev) (word ρ y) (word ρ z) f.above g.above) g.rest

  pub without-rising : (prev : Bytes) (xs : List Bytes) → rising ρ prev xs ≡ true → rising ρ prev (without_name ρ x xs) ≡ true
  unfolding rising without_name place count
  without-rising prev [] h = refl
  without-rising prev (y ∷ ys) h = go (less (word ρ y) (word ρ x)) refl (without-rising y ys (rising-first ρ prev y ys h).rest)
    where
      go : (t : Bool) → Below y t → rising ρ y (without_name ρ x ys) ≡ true → rising ρ prev (without_name ρ x (y ∷ ys)) ≡ true
      go true k more = let f = rising-first ρ prev y ys h in ap (rising ρ prev) (without_on y ys k) ∙ rw (f.size, f.above) more
      go false k more = ap (rising ρ prev) (without-here y ys (rises-behind prev (y ∷ ys) h) k) ∙ rising-below prev y ys h

  -- ---- how many

  pub with-length : (xs : List Bytes) → length (with_name ρ x xs) ≡ suc (length xs)
  unfolding with_name
  with-length xs =
      let p = seat ρ x xs in
      omega (arith, length-append (take p xs) (x ∷ drop p xs), length-append (take p xs) (drop p xs), ap length (take-append-drop p xs))

  pub without-length : (xs : List Bytes) → length (without_name ρ x xs) ≤ length xs
  unfolding without_name
  without-length xs =
      let p = seat ρ x xs in
      omega (arith, length-append (take p xs) (drop (suc p) xs), length-append (take p xs) (drop p xs), ap length (take-append-drop p xs), length-drop p xs, length-drop (suc p) xs)

  -- ---- so they are names that a list can have

  pub with-sound : (xs : List Bytes) → sound ρ xs ≡ true → good_length (length x) ≡ true → is_there ρ x xs ≡ false → length xs < most_names → sound ρ (with_name ρ x xs) ≡ true
  unfolding sound
  with-sound xs h good not few =
      rw (le-leb (length (with_name ρ x xs)) most_names (omega (arith, with-length xs, few))) (with-rising good [] xs (sound-rising ρ xs h) (above-nothing ρ ok x good) (absent xs not))

  pub without-sound : (xs : List Bytes) → sound ρ xs ≡ true → sound ρ (without_name ρ x xs) ≡ true
  unfolding sound
  without-sound xs h = rw (le-leb (length (without_name ρ x xs)) most_names (omega (arith, without-length xs, sound-few ρ xs h))) (without-rising [] xs (sound-rising ρ xs h))

  -- ---- in and out again

  pub with-without : good_length (length x) ≡ true → (prev : Bytes) (xs : List Bytes) → rising ρ prev xs ≡ true → less (word ρ prev) (word ρ x) ≡ true → Absent xs → without_name ρ x (with_name ρ x xs) ≡ xs
  unfolding with_name without_name place count
  with-without good prev [] h l a = rw (less-irrefl (word ρ x)) refl
  with-without good prev (y ∷ ys) h l (cons n a) = go (less (word ρ y) (word ρ x)) refl (λ k. with-without good y ys (rising-first ρ prev y ys h).rest k a)
    where
      go : (t : Bool) → Below y t → (Below y true → without_name ρ x (with_name ρ x ys) ≡ ys) → without_name ρ x (with_name ρ x (y ∷ ys)) ≡ y ∷ ys
      go true k more = ap (without_name ρ x) (with-on y ys k) ∙ without_on y (with_name ρ x ys) k ∙ ap (λ (zs : List Bytes). y ∷ zs) (more k)
      go false k more =
          let r = rises-behind prev (y ∷ ys) h in
          ap (without_name ρ x) (with-here y ys r k)
          ∙ without-here x (y ∷ ys) (subst (λ (zs : List Bytes). Rises (map (word ρ) zs)) (with-here y ys r k) (rises-behind prev (with_name ρ x (y ∷ ys)) (with-rising good prev (y ∷ ys) h l (cons n a)))) (less-irrefl (word ρ x))

  -- ---- out and in again, with the spelling that stood there

  -- the name that stands at the seat
  abbrev pub stored : List Bytes → Bytes
  stored xs = get_or xs (seat ρ x xs) []

  pub record There (xs : List Bytes) : Type 0 where
    pub inside : seat ρ x xs < length xs
    pub is : word ρ (stored xs) ≡ word ρ x

  pub is-there : (xs : List Bytes) → Rises (map (word ρ) xs) → is_there ρ x xs ≡ true → There xs
  is-there xs r h = go (both (ltb (seat ρ x xs) (length ws)) (same (nth ws (seat ρ x xs)) (word ρ x))) refl (sym (ap (λ (a : Pair). eqb a.1 1) (exact-place (word ρ x) ws (word-positive ρ ok x) r)) ∙ h)
    where
      ws : Words
      ws = map (word ρ) xs

      go : (t : Bool) → both (ltb (seat ρ x xs) (length (map (word ρ) xs))) (same (nth (map (word ρ) xs) (seat ρ x xs)) (word ρ x)) ≡ t → eqb (pick {X = Pair} t (seat ρ x xs, 1) (0, 0)).1 1 ≡ true → There xs
      go false e k = absurd (false≠true k)
      go true e k =
          let b = both_true (ltb (seat ρ x xs) (length (map (word ρ) xs))) (same (nth (map (word ρ) xs) (seat ρ x xs)) (word ρ x)) e in
          record {
            inside = omega (arith, ltb-true (seat ρ x xs) (length (map (word ρ) xs)) b.0, length-map xs (word ρ));
            is = sym (nth-word ρ xs (seat ρ x xs)) ∙ same_true (nth (map (word ρ) xs) (seat ρ x xs)) (word ρ x) b.1;
          }

  -- ---- whose names are in it

  pub with-own : (xs : List Bytes) → Among x (with_name ρ x xs)
  unfolding with_name
  with-own xs = Memᴰ.append_right (take (seat ρ x xs) xs) (here refl)

  pub with-other : (xs : List Bytes) (z : Bytes) → Among z xs → Among z (with_name ρ x xs)
  unfolding with_name
  with-other xs z m = go (Memᴰ.append_cases (take (seat ρ x xs) xs) (subst (Among z) (sym (take-append-drop (seat ρ x xs) xs)) m))
    where
      go : Among z (take (seat ρ x xs) xs) ⊎ Among z (drop (seat ρ x xs) xs) → Among z (take (seat ρ x xs) xs ++ (x ∷ drop (seat ρ x xs) xs))
      go (inl k) = Memᴰ.append_left (x ∷ drop (seat ρ x xs) xs) k
      go (inr k) = Memᴰ.append_right (take (seat ρ x xs) xs) (there k)

  pub with-either : (xs : List Bytes) (z : Bytes) → Among z (with_name ρ x xs) → (z ≡ x) ⊎ Among z xs
  unfolding with_name
  with-either xs z m = go (Memᴰ.append_cases (take (seat ρ x xs) xs) m)
    where
      whole : Among z (take (seat ρ x xs) xs ++ drop (seat ρ x xs) xs) → Among z xs
      whole k = subst (Among z) (take-append-drop (seat ρ x xs) xs) k

      go : Among z (take (seat ρ x xs) xs) ⊎ Among z (x ∷ drop (seat ρ x xs) xs) → (z ≡ x) ⊎ Among z xs
      go (inl k) = inr (whole (Memᴰ.append_left (drop (seat ρ x xs) xs) k))
      go (inr (here e)) = inl e
      go (inr (there k)) = inr (whole (Memᴰ.append_right (take (seat ρ x xs) xs) k))

-- ---- a name that went in is there

module _ (ρ : Rule) (ok : Sure ρ) (x : Bytes) where
  pub with-there : (xs : List Bytes) → is_there ρ x (with_name ρ x xs) ≡ true
  with-there xs = go (is_there ρ x (with_name ρ x xs)) refl
    where
      go : (t : Bool) → is_there ρ x (with_name ρ x xs) ≡ t → t ≡ true
      go true e = refl
      go false e = absurd (all-member (absent ρ ok x (with_name ρ x xs) e) (with-own ρ ok x xs) refl)

-- ---- two names

all_among : {P : Bytes → Type 0} (xs : List Bytes) → ((z : Bytes) → Among z xs → P z) → All P xs
all_among [] f = nil
all_among (x ∷ xs) f = cons (f x (here refl)) (all_among xs (λ z m. f z (there m)))

module _ (ρ : Rule) (ok : Sure ρ) (x y : Bytes) (differ : word ρ y ≡ word ρ x → ⊥) where
  -- another name does not bring x in
  pub absent-with : (xs : List Bytes) → Absent ρ ok x xs → Absent ρ ok x (with_name ρ y xs)
  absent-with xs a = all_among (with_name ρ y xs) (λ z m. go z (with-either ρ ok y xs z m))
    where
      go : (z : Bytes) → (z ≡ y) ⊎ Among z xs → word ρ z ≡ word ρ x → ⊥
      go z (inl e) q = differ (ap (word ρ) (sym e) ∙ q)
      go z (inr m) q = all-member a m q

module _ (ρ : Rule) (ok : Sure ρ) (x : Bytes) where
  pub without-with : (xs : List Bytes) → Rises (map (word ρ) xs) → There ρ ok x xs → with_name ρ (stored ρ ok x xs) (without_name ρ x xs) ≡ xs
  unfolding with_name place count
  without-with [] r t = absurd (not-suc-le-zero t.inside)
  without-with (y ∷ ys) (rise p a r) t = go (less (word ρ y) (word ρ x)) refl (without-with ys r)
    where
      all : Rises (map (word ρ) (y ∷ ys))
      all = rise p a r

      behind : (zs : List Bytes) → All (λ v. less (word ρ y) v ≡ true) (map (word ρ) zs) → Rises (map (word ρ) zs) → with_name ρ y zs ≡ y ∷ zs
      behind [] b s = refl
      behind (z ∷ zs) (cons k b) s = with-here ρ ok y z zs s (less-asym (word ρ y) (word ρ z) k)

      go : (t : Bool) → less (word ρ y) (word ρ x) ≡ t → (There ρ ok x ys → with_name ρ (stored ρ ok x ys) (without_name ρ x ys) ≡ ys) → with_name ρ (stored ρ ok x (y ∷ ys)) (without_name ρ x (y ∷ ys)) ≡ y ∷ ys
      go true k more =
          let on : seat ρ x (y ∷ ys) ≡ suc (seat ρ x ys) = seat-on ρ ok x y ys k in
          let own : stored ρ ok x (y ∷ ys) ≡ stored ρ ok x ys = ap (λ (p : ℕ). get_or (y ∷ ys) p []) on in
          let there : There ρ ok x ys = record { inside = omega (arith, t.inside, on); is = ap (word ρ) (sym own) ∙ t.is } in
          let below : less (word ρ y) (word ρ (stored ρ ok x ys)) ≡ true = ap (less (word ρ y)) there.is ∙ k in
          ap₂ (λ (z : Bytes) (zs : List Bytes). with_name ρ z zs) own (without_on ρ ok x y ys k)
          ∙ with-on ρ ok (stored ρ ok x ys) y (without_name ρ x ys) below ∙ ap (λ (zs : List Bytes). y ∷ zs) (more there)
      go false k more =
          let here : seat ρ x (y ∷ ys) ≡ 0 = seat-here ρ ok x y ys all k in
          ap₂ (λ (z : Bytes) (zs : List Bytes). with_name ρ z zs) (ap (λ (p : ℕ). get_or (y ∷ ys) p []) here) (without-here ρ ok x y ys all k) ∙ behind ys a r

module _ (ρ : Rule) (ok : Sure ρ) (x y : Bytes) (differ : word ρ y ≡ word ρ x → ⊥) (good : good_length (length x) ≡ true) (fine : good_length (length y) ≡ true) where
  rises-with : (z : Bytes) → good_length (length z) ≡ true → (xs : List Bytes) → rising ρ [] xs ≡ true → Absent ρ ok z xs → rising ρ [] (with_name ρ z xs) ≡ true
  rises-with z g xs h a = with-rising ρ ok z g [] xs h (above-nothing ρ ok z g) a

  pub with_two : (xs : List Bytes) → rising ρ [] xs ≡ true → Absent ρ ok x xs → Absent ρ ok y xs → with_name ρ x (with_name ρ y xs) ≡ with_name ρ y (with_name ρ x xs)
  with_two xs h a b =
      let xy : rising ρ [] (with_name ρ x (with_name ρ y xs)) ≡ true = rises-with x good (with_name ρ y xs) (rises-with y fine xs h b) (absent-with ρ ok x y differ xs a) in
      let yx : rising ρ [] (with_name ρ y (with_name ρ x xs)) ≡ true = rises-with y fine (with_name ρ x xs) (rises-with x good xs h a) (absent-with ρ ok y x (λ e. differ (sym e)) xs b) in
      unique-by (word ρ) (with_name ρ x (with_name ρ y xs)) (with_name ρ y (with_name ρ x xs)) (rising-rises ρ ok [] _ xy).1 (rising-rises ρ ok [] _ yx).1 (swap x y) (swap y x)
    where
      swap : (u v z : Bytes) → Among z (with_name ρ u (with_name ρ v xs)) → Among z (with_name ρ v (with_name ρ u xs))
      swap u v z m = go (with-either ρ ok u (with_name ρ v xs) z m)
        where
          inner : (z ≡ v) ⊎ Among z xs → Among z (with_name ρ v (with_name ρ u xs))
          inner (inl e) = subst (λ (t : Bytes). Among t (with_name ρ v (with_name ρ u xs))) (sym e) (with-own ρ ok v (with_name ρ u xs))
          inner (inr k) = with-other ρ ok v (with_name ρ u xs) z (with-other ρ ok u xs z k)

          go : (z ≡ u) ⊎ Among z (with_name ρ v xs) → Among z (with_name ρ v (with_name ρ u xs))
          go (inl e) = with-other ρ ok v (with_name ρ u xs) z (subst (λ (t : Bytes). Among t (with_name ρ u xs)) (sym e) (with-own ρ ok u xs))
          go (inr k) = inner (with-either ρ ok v xs z k)

-- ---- by position

module _ (ρ : Rule) (x : Bytes) (xs : List Bytes) where
  abbrev at : ℕ
  at = seat ρ x xs

  in_list : at ≤ length xs
  in_list = omega (arith, place-le (word ρ x) (map (word ρ) xs), length-map xs (word ρ))

  ahead : length (take at xs) ≡ at
  ahead = length-take-le at xs in_list

  -- what stands before the seat, whatever comes behind it
  kept : (ys : List Bytes) (j : ℕ) → j < at → get_or (take at xs ++ ys) j [] ≡ get_or xs j []
  kept ys j h = sym (get_or-take at (take at xs ++ ys) j [] h) ∙ ap (λ (l : List Bytes). get_or l j []) (take_at (take at xs) ys at ahead) ∙ get_or-take at xs j [] h

  pub with-before : (j : ℕ) → j < at → get_or (with_name ρ x xs) j [] ≡ get_or xs j []
  unfolding with_name
  with-before = kept (x ∷ drop at xs)

  pub with-seat : get_or (with_name ρ x xs) at [] ≡ x
  unfolding with_name
  with-seat = get_or_at (take at xs) x (drop at xs) [] at ahead

  pub with-behind : (j : ℕ) → at ≤ j → get_or (with_name ρ x xs) (suc j) [] ≡ get_or xs j []
  unfolding with_name
  with-behind j h =
      let z : length (take at xs) + suc (j - at) ≡ suc j = omega (arith, ahead, h) in
      let y : at + (j - at) ≡ j = omega (arith, h) in
      ap (λ (i : ℕ). get_or (take at xs ++ (x ∷ drop at xs)) i []) (sym z) ∙ get_or-append-add (take at xs) (x ∷ drop at xs) (suc (j - at)) [] ∙ get_or-drop at xs (j - at) [] ∙ ap (λ (i : ℕ). get_or xs i []) y

  pub without-before : (j : ℕ) → j < at → get_or (without_name ρ x xs) j [] ≡ get_or xs j []
  unfolding without_name
  without-before = kept (drop (suc at) xs)

  pub without-behind : (j : ℕ) → at ≤ j → get_or (without_name ρ x xs) j [] ≡ get_or xs (suc j) []
  unfolding without_name
  without-behind j h =
      let z : length (take at xs) + (j - at) ≡ j = omega (arith, ahead, h) in
      let y : suc at + (j - at) ≡ suc j = omega (arith, h) in
      ap (λ (i : ℕ). get_or (take at xs ++ drop (suc at) xs) i []) (sym z) ∙ get_or-append-add (take at xs) (drop (suc at) xs) (j - at) [] ∙ get_or-drop (suc at) xs (j - at) [] ∙ ap (λ (i : ℕ). get_or xs i []) y
