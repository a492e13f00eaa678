-- A run of entries, noted.
--     told_none, told-next     a row of which nothing is told yet; of which the next number is
--     run-start, run-entry, run-next     the walk over a run: how it begins, what a turn asks, and what it leaves
-- Assumes nothing.
use Prim.Native.Nat.{ℕ, suc, ◌+◌, ◌≤◌, ◌<◌}
use native.Mathlib.Nat.{lt_irrefl}
use native.Mathlib.Decide.{dec_lt}
use native.Mathlib.Omega.{arith}
use mathlib.Core.Path.{◌≡◌, ◌∙◌, ap, ap₂, refl, subst, sym}
use mathlib.Core.List.{List, []}
use lib.ListN.{drop, get_or, length, length-drop, length-set, set}
use lib.Seq.{drop-drop, get_or-drop, get_or-set_other, get_or-set_same}
use Rattle.words.specs.Words.{Bytes, Rule, shared, word}
use Rattle.streams.specs.Streams.{EntryAt, Stream, entry_end, name_at}
use Rattle.entries.specs.Reading.{NextIs}
use Rattle.entries.proofs.Reading.{stream-next}
use Rattle.records.specs.Notes.{counts_of, lens_of, shares_of}
use Rattle.records.specs.declared.Note.{Note}
use Rattle.records.proofs.Notes.{lens-length}
use Rattle.revise.specs.Noting.{NoteAsk, NotePut, NoteSet, Places, RowSet, RunAsk, RunPut, RunSays, Told, before_of}

-- ---- one row

pub told_none : (f : ℕ → ℕ) (j : ℕ) (row : List ℕ) → Told f 0 j row row
told_none f j row = record { size = refl; kept = λ i h. refl; told = λ t h. absurd (lt_irrefl 0 (omega (arith, h))) }

pub told-next : (f : ℕ → ℕ) (m j : ℕ) (row row' : List ℕ) → j + m < length row → Told f m j row row' → {a : ℕ} → a ≡ f m → Told f (suc m) j row (set row' (j + m) a)
told-next f m j row row' l t {a} e = record {
  size = length-set row' (j + m) a ∙ t.size;
  kept = λ i h. get_or-set_other row' (j + m) i a 0 (λ z. lt_irrefl j (omega (arith, h, z))) ∙ t.kept i h;
  told = λ i h. elim (dec_lt i m) [
    | yes k ↦ get_or-set_other row' (j + m) (j + i) a 0 (λ z. lt_irrefl m (omega (arith, k, z))) ∙ t.told i k
    | no k ↦
        let z : i ≡ m = omega (arith, h, k) in
        ap (λ (n : ℕ). get_or (set row' (j + m) a) (j + n) 0) z ∙ get_or-set_same row' (j + m) a 0 (omega (arith, l, t.size)) ∙ e ∙ ap f (sym z)
  ];
}

-- ---- a run

module _ (ρ : Rule) (b : Bytes) (at : ℕ) (prev : Bytes) (j : ℕ) (lens counts shares : List ℕ) where
  pub run-start : RunPut ρ b at prev 0 j lens counts shares lens counts shares at prev
  run-start = record {
    onward = λ zs s h. s;
    named = λ zs s h. refl;
    noted = λ zs s h. record { lens-told = told_none _ j lens; counts-told = told_none _ j counts; shares-told = told_none _ j shares };
  }

  -- t names are noted, and there is one more
  module _ (m : ℕ) (ask : RunAsk b at prev m j lens counts shares) (t : ℕ) (l : t < m) {lens' counts' shares' : List ℕ} {o : ℕ} {name : Bytes}
      (p : RunPut ρ b at prev t j lens counts shares lens' counts' shares' o name) where
    ahead : (zs : List Bytes) → Stream b at prev zs → t < length zs → EntryAt b o (length name) × (name_at b o name ≡ get_or (drop t zs) 0 []) × Stream b (entry_end b o) (name_at b o name) (drop 1 (drop t zs))
    ahead zs s h = stream-next b o name (drop t zs) (omega (arith, length-drop t zs, h)) (p.onward zs s (omega (arith, h)))

    pub run-entry : EntryAt b o (length name)
    run-entry = (ahead ask.names ask.stream (omega (arith, l, ask.enough))).0

    pub run-places : Places lens' counts' shares' (j + t)
    run-places =
        let n = p.noted ask.names ask.stream (omega (arith, l, ask.enough)) in
        record {
          lens-room = omega (arith, n.lens-told.size, ask.lens-room, l);
          counts-room = omega (arith, n.counts-told.size, ask.counts-room, l);
          shares-room = omega (arith, n.shares-told.size, ask.shares-room, l);
        }

    -- the name that comes next
    is-next : (zs : List Bytes) → Stream b at prev zs → t < length zs → name_at b o name ≡ get_or zs t []
    is-next zs s h = let z : t + 0 ≡ t = omega arith in (ahead zs s h).1 ∙ get_or-drop t zs 0 [] ∙ ap (λ (i : ℕ). get_or zs i []) z

    pub run-next : {next : ℕ} {name₂ : Bytes} {lens₂ counts₂ shares₂ : List ℕ} → NextIs b o name next name₂
        → RowSet ρ name (name_at b o name) (j + t) (length (name_at b o name)) lens' counts' shares' lens₂ counts₂ shares₂
        → RunPut ρ b at prev (suc t) j lens counts shares lens₂ counts₂ shares₂ next name₂
    run-next {next} {name₂} {lens₂} {counts₂} {shares₂} r w = record {
      onward = λ zs s h. go zs s h;
      named = λ zs s h. r.name-is ∙ is-next zs s h;
      noted = λ zs s h. rows zs s h;
    }
      where
        go : (zs : List Bytes) → Stream b at prev zs → suc t ≤ length zs → Stream b next name₂ (drop (suc t) zs)
        go zs s h =
            let z : t + 1 ≡ suc t = omega arith in
            subst (λ (i : ℕ). Stream b i name₂ (drop (suc t) zs)) (sym r.next-is)
            (subst (λ (x : Bytes). Stream b (entry_end b o) x (drop (suc t) zs)) (sym r.name-is)
            (subst (Stream b (entry_end b o) (name_at b o name)) (drop-drop 1 t zs ∙ ap (λ (i : ℕ). drop i zs) z) (ahead zs s h).2))

        rows : (zs : List Bytes) → Stream b at prev zs → suc t ≤ length zs → RunSays ρ prev zs (suc t) j lens counts shares lens₂ counts₂ shares₂
        rows zs s h =
            let n = p.noted zs s (omega (arith, h)) in
            let own : name ≡ before_of prev zs t = p.named zs s (omega (arith, h)) in
            let is : name_at b o name ≡ get_or zs t [] = is-next zs s h in
            record {
              lens-told = subst (Told (λ i. length (get_or zs i [])) (suc t) j lens) (sym w.lens-are) (told-next _ t j lens lens' (omega (arith, ask.lens-room, l)) n.lens-told (ap length is));
              counts-told = subst (Told (λ i. shared (before_of prev zs i) (get_or zs i [])) (suc t) j counts) (sym w.counts-are) (told-next _ t j counts counts' (omega (arith, ask.counts-room, l)) n.counts-told (ap₂ shared own is));
              shares-told = subst (Told (λ i. shared (word ρ (before_of prev zs i)) (word ρ (get_or zs i []))) (suc t) j shares) (sym w.shares-are)
                  (told-next _ t j shares shares' (omega (arith, ask.shares-room, l)) n.shares-told (ap₂ (λ (x y : Bytes). shared (word ρ x) (word ρ y)) own is));
            }

-- ---- the loop

-- t names of the run are noted
pub record RunTo (ρ : Rule) (b : Bytes) (at : ℕ) (name₀ : Bytes) (m j : ℕ) (rows₀ : List Note) (name : Bytes) (rows : List Note) (o t : ℕ) : Type 0 where
  pub ask : NoteAsk b at name₀ m j rows₀
  pub upto : t ≤ m
  pub put : NotePut ρ b at name₀ t j rows₀ rows o name

module _ {ρ : Rule} {b : Bytes} {at : ℕ} {name₀ : Bytes} {m j : ℕ} {rows₀ : List Note} where
  pub run-begins : NoteAsk b at name₀ m j rows₀ → RunTo ρ b at name₀ m j rows₀ name₀ rows₀ at 0
  run-begins a = record { ask = a; upto = omega arith; put = run-start ρ b at name₀ j (lens_of rows₀) (counts_of rows₀) (shares_of rows₀) }

  module _ {name : Bytes} {rows : List Note} {o t : ℕ} (i : RunTo ρ b at name₀ m j rows₀ name rows o t) where
    pub run_ends : m ≤ t → NotePut ρ b at name₀ m j rows₀ rows o name
    run_ends h = let z : t ≡ m = omega (arith, i.upto, h) in subst (λ (n : ℕ). NotePut ρ b at name₀ n j rows₀ rows o name) z i.put

    module _ (l : t < m) where
      places : Places (lens_of rows) (counts_of rows) (shares_of rows) (j + t)
      places = run-places ρ b at name₀ j (lens_of rows₀) (counts_of rows₀) (shares_of rows₀) m i.ask t l i.put

      pub run-asks : EntryAt b o (length name) × (j + t < length rows)
      run-asks =
          (run-entry ρ b at name₀ j (lens_of rows₀) (counts_of rows₀) (shares_of rows₀) m i.ask t l i.put, omega (arith, places.lens-room, lens-length rows))

      pub run-goes : {next : ℕ} {name₂ : Bytes} {rows₂ : List Note} → NextIs b o name next name₂
          → NoteSet ρ name (name_at b o name) (j + t) rows rows₂
          → RunTo ρ b at name₀ m j rows₀ name₂ rows₂ next (t + 1)
      run-goes {next} {name₂} {rows₂} r w =
          let z : suc t ≡ t + 1 = omega arith in
          record {
            ask = i.ask;
            upto = omega (arith, l);
            put = subst (λ (n : ℕ). NotePut ρ b at name₀ n j rows₀ rows₂ next name₂) z
                (run-next ρ b at name₀ j (lens_of rows₀) (counts_of rows₀) (shares_of rows₀) m i.ask t l i.put r w);
          }
