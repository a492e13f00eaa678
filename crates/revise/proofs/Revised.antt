-- Document 02, CR 13, 'A new stop mid-season': a full book with one name more, or one less.
--     added-built, removed-built     the changed book is built afresh from the changed list, with the same kind and block size, or refused as that is
--     added-kept, removed-kept     blocks wholly before the changed name come over byte for byte
-- Assumes nothing.
use Prim.Native.Nat.{ℕ, suc, ◌*◌, ◌/◌, ◌≤◌, ◌<◌}
use native.Mathlib.Nat.{div-add-mod', lt_irrefl}
use native.Mathlib.Omega.{arith}
use mathlib.Core.Path.{◌≡◌, refl, sym, ap, ◌∙◌}
use mathlib.Core.Bool.{Bool, false, true}
use mathlib.Core.List.{List, [], ◌∷◌, ◌++◌, append_assoc, map}
use lib.Dec.{leb, ltb}
use lib.ListN.{drop, length, length-map, take, take-append-drop}
use lib.Seq.{length-take-le, take-append_seam, take-take}
use borrow.Author.Tests.{le-leb, leb-true, lt-ltb, ltb-true}
use Rattle.words.specs.Words.{Bytes, Rule, pick, word}
use Rattle.words.proofs.Members.{all-member}
use Rattle.format.specs.Full.{is_full}
use Rattle.format.specs.Kinds.{BookKind, form_of, mark_of, rule_of, table_in}
use Rattle.format.specs.Book.{Book, block_part, book, entry_part, fits, longest_book, numbers, opened}
use Rattle.format.specs.Outcomes.{Written, given, over, refused}
use Rattle.format.specs.Records.{encode, good_length, most_names, sound}
use Rattle.format.proofs.Book.{Fits, book-opened, book-parts, fits-parts, opened-book, parts-fits, trailer_numbers}
use Rattle.format.proofs.BookKinds.{kind-layout, kind-sure}
use Rattle.revise.proofs.Cut.{entries-cut}
use Rattle.format.proofs.Records.{read-encode, sound-few, sound-rises, sound-rising}
use Rattle.answers.specs.Calls.{build, build_by, built_from}
use Rattle.revise.specs.Revising.{added, added_to, is_there, rebuilt, removed, removed_from, seat, with_name, without_name}
use Rattle.answers.proofs.Places.{place-le}
use Rattle.revise.proofs.Revising.{above-nothing, absent, is-there, stored, with-own, with-sound, with-there, with_two, with-without, without-sound, without-with}
use Rattle.theorems.proofs.Lists.{build-writes}

-- a book of names that a list can have, built from that list
rebuilt-built : (κ : BookKind) (k : ℕ) (room : Bytes) (ys : List Bytes) → 1 ≤ k → k ≤ 64 → sound (rule_of κ) ys ≡ true → rebuilt κ k room ys ≡ build κ (encode ys) k room
unfolding build_by
rebuilt-built κ k room ys low high h =
    rw (le-leb 1 k low, le-leb k 64 high, read-encode (rule_of κ) most_names ys (sound-few (rule_of κ) ys h) (sound-rising (rule_of κ) ys h)) refl

module _ (κ : BookKind) (k : ℕ) (xs : List Bytes) (s : Bytes) (opens : opened s ≡ Book κ k xs) (full : is_full κ ≡ true) (x : Bytes) (good : good_length (length x) ≡ true) where
  abbrev ρ : Rule
  ρ = rule_of κ

  own : Fits κ k xs
  own = fits-parts k xs (book-opened κ s k xs opens).0

  pub added-built : (room : Bytes) → is_there ρ x xs ≡ false → length xs < most_names → added s x room ≡ build κ (encode (with_name ρ x xs)) k room
  unfolding added added_to
  added-built room not few =
      ap (added_to x room) opens ∙ rw (full, good, not, lt-ltb (length xs) most_names few) (rebuilt-built κ k room (with_name ρ x xs) own.low own.high (with-sound ρ (kind-sure κ) x xs own.sound good not few))

  pub removed-built : (room : Bytes) → is_there ρ x xs ≡ true → removed s x room ≡ build κ (encode (without_name ρ x xs)) k room
  unfolding removed removed_from
  removed-built room is =
      ap (removed_from x room) opens ∙ rw (full, good, is) (rebuilt-built κ k room (without_name ρ x xs) own.low own.high (without-sound ρ (kind-sure κ) x xs own.sound))

-- ---- blocks before the changed name

-- the book of names of which the first fill j blocks begins with the entries of these
front_kept : (κ : BookKind) (k j : ℕ) → 1 ≤ k → (us vs : List Bytes) → length us ≡ j * k → take (length (entry_part k us)) (book κ k (us ++ vs)) ≡ entry_part k us
front_kept κ k j low us vs e =
    let zs : List Bytes = us ++ vs in
    let rest : Bytes = block_part k zs ++ (numbers (table_in (form_of κ) (rule_of κ) zs) ++ (numbers (trailer_numbers (kind-layout κ) k zs) ++ mark_of κ)) in
    ap (take (length (entry_part k us))) (book-parts (kind-layout κ) k zs ∙ ap (λ (es : Bytes). es ++ rest) (entries-cut k j low us vs e) ∙ append_assoc (entry_part k us) (entry_part k vs) rest)
    ∙ take-append_seam (entry_part k us) (entry_part k vs ++ rest)

-- two lists that begin with the same names, which fill j blocks: both books have the same front
same-front : (κ : BookKind) (k j : ℕ) → 1 ≤ k → (us vs ws : List Bytes) → length us ≡ j * k → let o = length (entry_part k us) in take o (book κ k (us ++ vs)) ≡ take o (book κ k (us ++ ws))
same-front κ k j low us vs ws e = front_kept κ k j low us vs e ∙ sym (front_kept κ k j low us ws e)

module _ (κ : BookKind) (k : ℕ) (low : 1 ≤ k) (x : Bytes) (xs : List Bytes) where
  -- how many blocks stand wholly before the changed name, and the names in them
  abbrev before : ℕ
  before = seat (rule_of κ) x xs / k

  abbrev names : List Bytes
  names = take (before * k) xs

  inside : before * k ≤ seat (rule_of κ) x xs
  inside = omega (arith, div-add-mod' (seat (rule_of κ) x xs) k)

  within : seat (rule_of κ) x xs ≤ length xs
  within = omega (arith, place-le (word (rule_of κ) x) (map (word (rule_of κ)) xs), length-map xs (word (rule_of κ)))

  many : length names ≡ before * k
  many = length-take-le (before * k) xs (omega (arith, inside, within))

  -- the names before the changed one, from these on
  between : List Bytes
  between = drop (before * k) (take (seat (rule_of κ) x xs) xs)

  cut : take (seat (rule_of κ) x xs) xs ≡ names ++ between
  unfolding between
  cut =
      sym (take-append-drop (before * k) (take (seat (rule_of κ) x xs) xs))
      ∙ ap (λ (us : List Bytes). us ++ drop (before * k) (take (seat (rule_of κ) x xs) xs)) (take-take (before * k) (seat (rule_of κ) x xs) xs inside)

  old : xs ≡ names ++ drop (before * k) xs
  old = sym (take-append-drop (before * k) xs)

  pub added-kept : let o = length (entry_part k names) in take o (book κ k (with_name (rule_of κ) x xs)) ≡ take o (book κ k xs)
  unfolding with_name
  added-kept =
      let tail : List Bytes = x ∷ drop (seat (rule_of κ) x xs) xs in
      let o : ℕ = length (entry_part k names) in
      ap (λ (ys : List Bytes). take o (book κ k (ys ++ tail))) cut ∙ ap (λ (ys : List Bytes). take o (book κ k ys)) (append_assoc names between tail)
      ∙ same-front κ k before low names (between ++ tail) (drop (before * k) xs) many ∙ ap (λ (ys : List Bytes). take o (book κ k ys)) (sym old)

  pub removed-kept : let o = length (entry_part k names) in take o (book κ k (without_name (rule_of κ) x xs)) ≡ take o (book κ k xs)
  unfolding without_name
  removed-kept =
      let tail : List Bytes = drop (suc (seat (rule_of κ) x xs)) xs in
      let o : ℕ = length (entry_part k names) in
      ap (λ (ys : List Bytes). take o (book κ k (ys ++ tail))) cut ∙ ap (λ (ys : List Bytes). take o (book κ k ys)) (append_assoc names between tail)
      ∙ same-front κ k before low names (between ++ tail) (drop (before * k) xs) many ∙ ap (λ (ys : List Bytes). take o (book κ k ys)) (sym old)

-- ---- what an accepting answer says

-- the names that a change leaves, which fit a book of the same kind and block size that the room holds
pub record Changes (κ : BookKind) (k : ℕ) (room : Bytes) (ys : List Bytes) : Type 0 where
  pub short : length (book κ k ys) ≤ longest_book
  pub holds : length (book κ k ys) ≤ length room

rebuilt-accepts : (κ : BookKind) (k : ℕ) (room : Bytes) (ys : List Bytes) → (rebuilt κ k room ys).answer.code ≡ 0 → Changes κ k room ys
unfolding built_from
rebuilt-accepts κ k room ys h = go (leb (length (book κ k ys)) longest_book) refl (leb (length (book κ k ys)) (length room)) refl h
  where
    go : (t : Bool) → leb (length (book κ k ys)) longest_book ≡ t → (u : Bool) → leb (length (book κ k ys)) (length room) ≡ u
        → (pick {X = Written} t (pick u (record { answer = given (length (book κ k ys)) 0; room = over (book κ k ys) room }) (record { answer = refused 4; room = room })) (record { answer = refused 9; room = room })).answer.code ≡ 0
        → Changes κ k room ys
    go true e true f h = record { short = leb-true (length (book κ k ys)) longest_book e; holds = leb-true (length (book κ k ys)) (length room) f }
    go true e false f h = absurd (lt_irrefl 0 (omega (arith, h)))
    go false e u f h = absurd (lt_irrefl 0 (omega (arith, h)))

-- the book is a full one, the name's length is good, it is not there, there is room for one name more, and the changed book fits
pub record Adds (κ : BookKind) (k : ℕ) (xs : List Bytes) (x room : Bytes) : Type 0 where
  pub full : is_full κ ≡ true
  pub good : good_length (length x) ≡ true
  pub absent : is_there (rule_of κ) x xs ≡ false
  pub few : length xs < most_names
  pub changes : Changes κ k room (with_name (rule_of κ) x xs)

-- .. it is there
pub record Removes (κ : BookKind) (k : ℕ) (xs : List Bytes) (x room : Bytes) : Type 0 where
  pub full : is_full κ ≡ true
  pub good : good_length (length x) ≡ true
  pub there : is_there (rule_of κ) x xs ≡ true
  pub changes : Changes κ k room (without_name (rule_of κ) x xs)

no : (code : ℕ) → 0 < code → {P : Type 0} → code ≡ 0 → P
no code l z = absurd (lt_irrefl 0 (omega (arith, l, z)))

module _ (κ : BookKind) (k : ℕ) (xs : List Bytes) (s : Bytes) (opens : opened s ≡ Book κ k xs) (x room : Bytes) where
  pub added-accepts : (added s x room).answer.code ≡ 0 → Adds κ k xs x room
  unfolding added added_to
  added-accepts h = by (is_full κ) (good_length (length x)) (is_there (rule_of κ) x xs) (ltb (length xs) most_names) refl refl refl refl (ap (λ (w : Written). w.answer.code) (sym (ap (added_to x room) opens)) ∙ h)
    where
      by : (a b c d : Bool) → is_full κ ≡ a → good_length (length x) ≡ b → is_there (rule_of κ) x xs ≡ c → ltb (length xs) most_names ≡ d
          → (pick {X = Written} a (pick b (pick c (record { answer = refused 14; room = room }) (pick d (rebuilt κ k room (with_name (rule_of κ) x xs)) (record { answer = refused 7; room = room }))) (record { answer = refused 5; room = room })) (record { answer = refused 2; room = room })).answer.code ≡ 0
          → Adds κ k xs x room
      by true true false true fa fb fc fd h = record { full = fa; good = fb; absent = fc; few = ltb-true (length xs) most_names fd; changes = rebuilt-accepts κ k room (with_name (rule_of κ) x xs) h }
      by true true false false fa fb fc fd h = no 7 (omega arith) h
      by true true true d fa fb fc fd h = no 14 (omega arith) h
      by true false c d fa fb fc fd h = no 5 (omega arith) h
      by false b c d fa fb fc fd h = no 2 (omega arith) h

  pub removed-accepts : (removed s x room).answer.code ≡ 0 → Removes κ k xs x room
  unfolding removed removed_from
  removed-accepts h = by (is_full κ) (good_length (length x)) (is_there (rule_of κ) x xs) refl refl refl (ap (λ (w : Written). w.answer.code) (sym (ap (removed_from x room) opens)) ∙ h)
    where
      by : (a b c : Bool) → is_full κ ≡ a → good_length (length x) ≡ b → is_there (rule_of κ) x xs ≡ c
          → (pick {X = Written} a (pick b (pick c (rebuilt κ k room (without_name (rule_of κ) x xs)) (record { answer = refused 15; room = room })) (record { answer = refused 5; room = room })) (record { answer = refused 2; room = room })).answer.code ≡ 0
          → Removes κ k xs x room
      by true true true fa fb fc h = record { full = fa; good = fb; there = fc; changes = rebuilt-accepts κ k room (without_name (rule_of κ) x xs) h }
      by true true false fa fb fc h = no 15 (omega arith) h
      by true false c fa fb fc h = no 5 (omega arith) h
      by false b c fa fb fc h = no 2 (omega arith) h

-- ---- the books that the calls write

abbrev pub added_book : Bytes → Bytes → Bytes → Bytes
added_book s x room = take (added s x room).answer.first (added s x room).room

abbrev pub removed_book : Bytes → Bytes → Bytes → Bytes
removed_book s x room = take (removed s x room).answer.first (removed s x room).room

-- the front of a room that a book was written over
front_of : (t room : Bytes) → take (length t) (over t room) ≡ t
front_of t room = take-append_seam t (drop (length t) room)

-- what a call wrote that is the build of names that fit
wrote : (κ : BookKind) (k : ℕ) (room : Bytes) (ys : List Bytes) → fits κ k ys ≡ true → length (book κ k ys) ≤ length room → (w : Written) → w ≡ build κ (encode ys) k room → take w.answer.first w.room ≡ book κ k ys
wrote κ k room ys fit big w e = ap (λ (v : Written). take v.answer.first v.room) (e ∙ build-writes κ k ys fit room big) ∙ front_of (book κ k ys) room

module _ (κ : BookKind) (k : ℕ) (xs : List Bytes) (s : Bytes) (opens : opened s ≡ Book κ k xs) (x room : Bytes) where
  fit-now : Fits κ k xs
  fit-now = fits-parts k xs (book-opened κ s k xs opens).0

  module _ (h : (added s x room).answer.code ≡ 0) where
    adds : Adds κ k xs x room
    adds = added-accepts κ k xs s opens x room h

    more-sound : sound (rule_of κ) (with_name (rule_of κ) x xs) ≡ true
    more-sound = with-sound (rule_of κ) (kind-sure κ) x xs fit-now.sound adds.good adds.absent adds.few

    more-fits : fits κ k (with_name (rule_of κ) x xs) ≡ true
    more-fits = parts-fits k (with_name (rule_of κ) x xs) (record { low = fit-now.low; high = fit-now.high; sound = more-sound; short = adds.changes.short })

    pub added-book : added_book s x room ≡ book κ k (with_name (rule_of κ) x xs)
    added-book = wrote κ k room (with_name (rule_of κ) x xs) more-fits adds.changes.holds (added s x room) (added-built κ k xs s opens adds.full x adds.good room adds.absent adds.few)

    pub added-opens : opened (added_book s x room) ≡ Book κ k (with_name (rule_of κ) x xs)
    added-opens = ap opened added-book ∙ opened-book κ k (with_name (rule_of κ) x xs) more-fits

  module _ (h : (removed s x room).answer.code ≡ 0) where
    removes : Removes κ k xs x room
    removes = removed-accepts κ k xs s opens x room h

    fewer-sound : sound (rule_of κ) (without_name (rule_of κ) x xs) ≡ true
    fewer-sound = without-sound (rule_of κ) (kind-sure κ) x xs fit-now.sound

    fewer-fits : fits κ k (without_name (rule_of κ) x xs) ≡ true
    fewer-fits = parts-fits k (without_name (rule_of κ) x xs) (record { low = fit-now.low; high = fit-now.high; sound = fewer-sound; short = removes.changes.short })

    pub removed-book : removed_book s x room ≡ book κ k (without_name (rule_of κ) x xs)
    removed-book = wrote κ k room (without_name (rule_of κ) x xs) fewer-fits removes.changes.holds (removed s x room) (removed-built κ k xs s opens removes.full x removes.good room removes.there)

    pub removed-opens : opened (removed_book s x room) ≡ Book κ k (without_name (rule_of κ) x xs)
    removed-opens = ap opened removed-book ∙ opened-book κ k (without_name (rule_of κ) x xs) fewer-fits

-- a book built again from its own names
again : (κ : BookKind) (s : Bytes) (k : ℕ) (xs : List Bytes) → opened s ≡ Book κ k xs → (other : Bytes) → length s ≤ length other → build κ (encode xs) k other ≡ record { answer = given (length s) 0; room = over s other }
again κ s k xs e other big =
    let o = book-opened κ s k xs e in
    build-writes κ k xs o.0 other (omega (arith, ap length o.1, big)) ∙ ap (λ (t : Bytes). record { answer = given (length t) 0; room = over t other }) o.1

-- ---- in and out again

-- a name that was added, removed again: the first book
pub add-remove : (κ : BookKind) (k : ℕ) (xs : List Bytes) (s : Bytes) → opened s ≡ Book κ k xs → (x room other : Bytes) → (added s x room).answer.code ≡ 0 → length s ≤ length other
    → removed (added_book s x room) x other ≡ record { answer = given (length s) 0; room = over s other }
add-remove κ k xs s opens x room other h big =
    let ρ = rule_of κ in
    let ok = kind-sure κ in
    let a = adds κ k xs s opens x room h in
    let rises = sound-rising ρ xs (fit-now κ k xs s opens x room).sound in
    let back : without_name ρ x (with_name ρ x xs) ≡ xs = with-without ρ ok x a.good [] xs rises (above-nothing ρ ok x a.good) (absent ρ ok x xs a.absent) in
    removed-built κ k (with_name ρ x xs) (added_book s x room) (added-opens κ k xs s opens x room h) a.full x a.good other (with-there ρ ok x xs)
    ∙ ap (λ (zs : List Bytes). build κ (encode zs) k other) back ∙ again κ s k xs opens other big

-- two names, each of which can be added behind the other: one book, in either order
pub adds-commute : (κ : BookKind) (k : ℕ) (xs : List Bytes) (s : Bytes) → opened s ≡ Book κ k xs → (x y r₁ r₂ r₃ r₄ : Bytes)
    → (added s x r₁).answer.code ≡ 0 → (added (added_book s x r₁) y r₂).answer.code ≡ 0 → (added s y r₃).answer.code ≡ 0 → (added (added_book s y r₃) x r₄).answer.code ≡ 0
    → added_book (added_book s x r₁) y r₂ ≡ added_book (added_book s y r₃) x r₄
adds-commute κ k xs s opens x y r₁ r₂ r₃ r₄ e f g h =
    let ρ = rule_of κ in
    let ok = kind-sure κ in
    let a = adds κ k xs s opens x r₁ e in
    let b = adds κ k xs s opens y r₃ g in
    let xo = added-opens κ k xs s opens x r₁ e in
    let yo = added-opens κ k xs s opens y r₃ g in
    let c = adds κ k (with_name ρ x xs) (added_book s x r₁) xo y r₂ f in
    let differ : word ρ x ≡ word ρ y → ⊥ = all-member (absent ρ ok y (with_name ρ x xs) c.absent) (with-own ρ ok x xs) in
    added-book κ k (with_name ρ x xs) (added_book s x r₁) xo y r₂ f
    ∙ ap (book κ k) (with_two ρ ok y x differ b.good a.good xs (sound-rising ρ xs (fit-now κ k xs s opens x r₁).sound) (absent ρ ok y xs b.absent) (absent ρ ok x xs a.absent))
    ∙ sym (added-book κ k (with_name ρ y xs) (added_book s y r₃) yo x r₄ h)

-- a name that was removed, added again as it stood there: the first book
pub remove-add : (κ : BookKind) (k : ℕ) (xs : List Bytes) (s : Bytes) → opened s ≡ Book κ k xs → (x room other : Bytes) → (removed s x room).answer.code ≡ 0
    → (added (removed_book s x room) (stored (rule_of κ) (kind-sure κ) x xs) other).answer.code ≡ 0
    → added (removed_book s x room) (stored (rule_of κ) (kind-sure κ) x xs) other ≡ build κ (encode xs) k other
remove-add κ k xs s opens x room other h e =
    let ρ = rule_of κ in
    let ok = kind-sure κ in
    let ro = removed-opens κ k xs s opens x room h in
    let z = stored ρ ok x xs in
    let a = adds κ k (without_name ρ x xs) (removed_book s x room) ro z other e in
    let rises = sound-rises ρ ok xs (fit-now κ k xs s opens x room).sound in
    added-built κ k (without_name ρ x xs) (removed_book s x room) ro a.full z a.good other a.absent a.few
    ∙ ap (λ (zs : List Bytes). build κ (encode zs) k other) (without-with ρ ok x xs rises (is-there ρ ok x xs rises (removes κ k xs s opens x room h).there))
