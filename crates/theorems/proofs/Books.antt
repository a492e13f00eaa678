-- Demand 3: what bytes are a book. First over any lawful rule, form of table and mark of four bytes; then by the bytes' own mark, as the public calls go.
--     layout-iff        bytes are a book of k and xs just where the layout yields them for k and xs
--     layout-no         and none just where it yields them for nothing
--     layout-one-list   one book, one list of names and one block size
--     one-book          same names, block size, rule, form and mark, same bytes
--     book-fits, book-of-bytes, told-length     a book fits; all its bytes are below 256; the trailer's length is its length
--     mark-tells        the kind that a book's bytes are marked as is its kind
--     accepted-iff      bytes open as κ, k and xs just where the layout of κ yields them for k and xs
--     check-iff, check-no     the check gives 0, n and k just where the bytes are the book of some kind, of some n names with block size k; and 2 just where they are the book of none
--     one_list          one book, one kind, one list of names and one block size
-- Assumes nothing.
use Prim.Native.Nat.{ℕ, suc, ◌≤◌}
use native.Mathlib.Omega.{arith}
use mathlib.Core.Path.{◌≡◌, refl, sym, ap, ◌∙◌, subst}
use mathlib.Core.Logic.{◌↔◌}
use mathlib.Core.Bool.{Bool, false, true}
use mathlib.Core.List.{List, []}
use lib.ListN.{length, get_or}
use Rattle.words.specs.Rising.{All}
use Rattle.words.specs.Words.{Bytes, InBytes, Rule}
use Rattle.words.proofs.Lists.{all-at, all_from, all-map₂}
use Rattle.words.proofs.Words.{false≠true}
use Rattle.format.specs.Kinds.{BookKind, Form, kind_of}
use Rattle.format.specs.Layout.{Layout}
use Rattle.format.specs.Book.{Book, NoBook, Opened, book_by, fits_by, is_book, is_book_by, names_of, opened, told}
use Rattle.format.specs.Records.{longest}
use Rattle.format.proofs.Book.{FitsBy, book-is, book-length, book-opened, fits-parts, is-book, kind-of-book, opened-book, parts-fits, read-field, read_names}
use Rattle.format.proofs.BookKinds.{kind-layout}
use Rattle.format.proofs.Numbers.{all-bytes, bytes-all}
use Rattle.format.proofs.Records.{from-sound, lawful-symbols, rising-less, rising-sizes, sound-few, sound-rising}
use Rattle.format.proofs.Small.{book-bytes, names-bytes}
use Rattle.format.specs.Outcomes.{Answer, check_of, given, refused}
use Rattle.answers.specs.Calls.{check}
use Rattle.theorems.specs.Demands.{BookOf}
use Rattle.theorems.specs.Layouts.{BookBy}
use Rattle.theorems.proofs.Lettered.{lawful-names, names-symbols}

module _ {ρ : Rule} {f : Form} {mark : Bytes} (y : Layout ρ f mark) where
  -- what the bytes tell of themselves
  found : (s : Bytes) → InBytes s → is_book_by ρ f mark s ≡ true → BookBy ρ f mark s (told s 1) (names_of s)
  found s h e =
      let xs : List Bytes = names_of s in
      let b = is-book y s e in
      let fit = fits-parts (told s 1) xs b.0 in
      record {
        block = (fit.low, fit.high);
        few = sound-few ρ xs fit.sound;
        sizes = all-at [] xs (rising-sizes ρ [] xs (sound-rising ρ xs fit.sound));
        letters = λ i l. all-bytes (get_or xs i []) (all-at [] xs (names-bytes s h) i l);
        rises = rising-less ρ xs (lawful-symbols ρ y.lawful xs (names-bytes s h)) (sound-rising ρ xs fit.sound);
        layout = b.1;
        short = omega (arith, ap length b.1, fit.short);
      }

  module _ {s : Bytes} {k : ℕ} {xs : List Bytes} (b : BookBy ρ f mark s k xs) where
    all-sizes : All (λ x. (1 ≤ length x) × (length x ≤ longest)) xs
    all-sizes = all_from [] xs b.sizes

    pub book-fits : fits_by ρ f mark k xs ≡ true
    book-fits = parts-fits k xs (record {
      low = b.block.0;
      high = b.block.1;
      sound = from-sound ρ xs (names-symbols ρ xs (lawful-names ρ y.lawful xs b.letters)) b.few all-sizes (λ i h. b.rises i (suc i) (omega arith) h);
      short = omega (arith, ap length b.layout, b.short);
    })

    fit : FitsBy ρ f mark k xs
    fit = fits-parts k xs book-fits

    -- all bytes of a book are below 256
    pub book-of-bytes : InBytes s
    book-of-bytes =
        subst InBytes b.layout
        (all-bytes (book_by ρ f mark k xs) (book-bytes y k xs b.block.0
        (all-map₂ (λ x m l. (m.1, l)) all-sizes (all_from [] xs (λ i h. bytes-all (get_or xs i []) (b.letters i h))))))

    stands : is_book_by ρ f mark s ≡ true
    stands = subst (λ (t : Bytes). is_book_by ρ f mark t ≡ true) b.layout (book-is k xs y book-fits)

    told-block : told s 1 ≡ k
    told-block = subst (λ (t : Bytes). told t 1 ≡ k) b.layout (read-field y k xs fit 1 (omega arith))

    told_names : names_of s ≡ xs
    told_names = subst (λ (t : Bytes). names_of t ≡ xs) b.layout (read_names y k xs fit)

    -- the trailer's length is the book's
    pub told-length : told s 5 ≡ length s
    told-length =
        subst (λ (t : Bytes). told t 5 ≡ length t) b.layout
        (read-field y k xs fit 5 (omega arith) ∙ sym (book-length y k xs))

  pub layout-iff : (s : Bytes) (k : ℕ) (xs : List Bytes) → (InBytes s × (is_book_by ρ f mark s ≡ true) × (told s 1 ≡ k) × (names_of s ≡ xs)) ↔ BookBy ρ f mark s k xs
  layout-iff s k xs = (
    λ h. subst (BookBy ρ f mark s k) h.3 (subst (λ (j : ℕ). BookBy ρ f mark s j (names_of s)) h.2 (found s h.0 h.1)),
    λ b. (book-of-bytes b, stands b, told-block b, told_names b),
  )

  pub layout-no : (s : Bytes) → InBytes s → (is_book_by ρ f mark s ≡ false) ↔ ((k : ℕ) (xs : List Bytes) → BookBy ρ f mark s k xs → ⊥)
  layout-no s h = (λ e k xs b. false≠true (sym e ∙ stands b), λ n. go (is_book_by ρ f mark s) refl n)
    where
      go : (t : Bool) → is_book_by ρ f mark s ≡ t → ((k : ℕ) (xs : List Bytes) → BookBy ρ f mark s k xs → ⊥) → t ≡ false
      go true e n = absurd (n (told s 1) (names_of s) (found s h e))
      go false e n = refl

  pub one-book : {s t : Bytes} {k : ℕ} {xs : List Bytes} → BookBy ρ f mark s k xs → BookBy ρ f mark t k xs → s ≡ t
  one-book a b = sym a.layout ∙ b.layout

  pub layout-one-list : {s : Bytes} {k j : ℕ} {xs ys : List Bytes} → BookBy ρ f mark s k xs → BookBy ρ f mark s j ys → (k ≡ j) × (xs ≡ ys)
  layout-one-list a b = (sym (told-block a) ∙ told-block b, sym (told_names a) ∙ told_names b)

-- ---- by the mark

pub mark-tells : {κ : BookKind} {s : Bytes} {k : ℕ} {xs : List Bytes} → BookOf κ s k xs → kind_of s ≡ κ
mark-tells {κ} {s} {k} {xs} b = subst (λ (t : Bytes). kind_of t ≡ κ) b.layout (kind-of-book κ k xs)

opens : (κ : BookKind) {s : Bytes} {k : ℕ} {xs : List Bytes} → BookOf κ s k xs → opened s ≡ Book κ k xs
opens κ {s} {k} {xs} b = subst (λ (t : Bytes). opened t ≡ Book κ k xs) b.layout (opened-book κ k xs (book-fits (kind-layout κ) b))

accepted : (κ : BookKind) (s : Bytes) (k : ℕ) (xs : List Bytes) → InBytes s → opened s ≡ Book κ k xs → BookOf κ s k xs
accepted κ s k xs h e =
    let o = book-opened κ s k xs e in
    let fit = fits-parts k xs o.0 in
    let is : is_book κ s ≡ true = subst (λ (t : Bytes). is_book κ t ≡ true) o.1 (book-is k xs (kind-layout κ) o.0) in
    let block : told s 1 ≡ k = subst (λ (t : Bytes). told t 1 ≡ k) o.1 (read-field (kind-layout κ) k xs fit 1 (omega arith)) in
    let names : names_of s ≡ xs = subst (λ (t : Bytes). names_of t ≡ xs) o.1 (read_names (kind-layout κ) k xs fit) in
    (layout-iff (kind-layout κ) s k xs).0 (h, is, block, names)

pub accepted-iff : (κ : BookKind) (s : Bytes) (k : ℕ) (xs : List Bytes) → (InBytes s × (opened s ≡ Book κ k xs)) ↔ BookOf κ s k xs
accepted-iff κ s k xs = (λ h. accepted κ s k xs h.0 h.1, λ b. (book-of-bytes (kind-layout κ) b, opens κ b))

pub one_list : {κ μ : BookKind} {s : Bytes} {k j : ℕ} {xs ys : List Bytes} → BookOf κ s k xs → BookOf μ s j ys → (κ ≡ μ) × (k ≡ j) × (xs ≡ ys)
one_list {κ} {μ} {s} {k} {j} {xs} {ys} a b = let e : Book κ k xs ≡ Book μ j ys = sym (opens κ a) ∙ opens μ b in (cc, cc, cc)

pub check-iff : (s : Bytes) (n k : ℕ) → InBytes s → (check s ≡ given n k) ↔ ((κ : BookKind) × (xs : List Bytes) × (length xs ≡ n) × BookOf κ s k xs)
unfolding check check_of
check-iff s n k h = (λ e. yes-book (opened s) refl e, λ w. ap check_of (opens w.0 w.3) ∙ ap (λ (m : ℕ). given m k) w.2)
  where
    yes-book : (o : Opened) → opened s ≡ o → check_of o ≡ given n k → (κ : BookKind) × (xs : List Bytes) × (length xs ≡ n) × BookOf κ s k xs
    yes-book NoBook p e = absurd (let z : ◌≡◌ {A = ℕ} 2 0 = ap (λ (a : Answer). a.code) e in omega arith)
    yes-book (Book κ j xs) p e =
        let m : length xs ≡ n = ap (λ (a : Answer). a.first) e in
        let l : j ≡ k = ap (λ (a : Answer). a.second) e in
        (κ, xs, m, subst (λ (i : ℕ). BookOf κ s i xs) l (accepted κ s j xs h p))

pub check-no : (s : Bytes) → InBytes s → (check s ≡ refused 2) ↔ ((κ : BookKind) (k : ℕ) (xs : List Bytes) → BookOf κ s k xs → ⊥)
unfolding check check_of
check-no s h = (λ e κ k xs b. never (sym (ap check_of (opens κ b)) ∙ e), λ n. no-book (opened s) refl n)
  where
    never : {n k : ℕ} → given n k ≡ refused 2 → ⊥
    never e = let z : ◌≡◌ {A = ℕ} 0 2 = ap (λ (a : Answer). a.code) e in omega arith

    no-book : (o : Opened) → opened s ≡ o → ((κ : BookKind) (k : ℕ) (xs : List Bytes) → BookOf κ s k xs → ⊥) → check_of o ≡ refused 2
    no-book NoBook p n = refl
    no-book (Book κ k xs) p n = absurd (n κ k xs (accepted κ s k xs h p))
