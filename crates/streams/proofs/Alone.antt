-- A block's span by itself: what the walk over a block shows of it, and the other way round.
--     cut_out            the bytes from an offset to another
--     run_alone         names whose entries stand from o to e are the whole block of that span
--     alone-run, alone-stream     and the names of a whole block stand there
-- Assumes nothing.
use Prim.Native.Nat.{ℕ, ◌+◌, ◌-◌, ◌≤◌}
use native.Mathlib.Omega.{arith}
use mathlib.Core.Path.{◌≡◌, refl, sym, ap, ap₂, ◌∙◌}
use mathlib.Core.List.{List, [], ◌∷◌, ◌++◌}
use lib.ListN.{drop, length, length-append, length-drop, take, take-append-drop}
use lib.Seq.{drop-drop, take-append_seam}
use Rattle.words.specs.Words.{Bytes, Rule, plain}
use Rattle.format.specs.Entries.{front}
use Rattle.format.specs.Salvage.{Whole, judged_alone}
use Rattle.format.specs.Spans.{last_of}
use Rattle.format.proofs.Salvage.{alone-whole, whole-alone}
use Rattle.streams.specs.Runs.{Run, RunTo, more}
use Rattle.streams.specs.Streams.{EntryAt, Stream, done, entry, entry_end}
use Rattle.streams.proofs.Fronts.{front-run, run-front}

run-stream : (ρ : Rule) (b : Bytes) (e : ℕ) → e ≤ length b → (o : ℕ) (prev : Bytes) (xs : List Bytes) → Run ρ b e o prev xs → Stream b o prev xs
run-stream ρ b e w o prev [] r = done
run-stream ρ b e w o prev (x ∷ xs) (more s n r) =
    let stands : EntryAt b o (length prev) = record { fits = omega (arith, s.fits); shares = s.shares; short = s.short } in
    entry stands n (run-stream ρ b e w (entry_end b o) x xs r)

abbrev pub cut_out : Bytes → ℕ → ℕ → Bytes
cut_out b o e = take (e - o) (drop o b)

module _ (b : Bytes) (o e m : ℕ) (w : e ≤ length b) where
  pub run_alone : (l : Bytes) (r : RunTo plain b e o [] m l) → judged_alone m (cut_out b o e) ≡ Whole r.names
  run_alone l r =
      let f = run-front plain b e o [] r.names w r.run in
      let long : length (front [] r.names) ≡ e - o = omega (arith, ap length f.entries, length-append (front [] r.names) (drop e b), length-drop o b, length-drop e b, f.upto) in
      alone-whole m (cut_out b o e) r.names
      (record {
        count = r.count;
        rises = f.rises;
        entries = sym (ap₂ take (sym long) f.entries ∙ take-append_seam (front [] r.names) (drop e b));
      })

  pub alone-run : o ≤ e → (xs : List Bytes) → judged_alone m (cut_out b o e) ≡ Whole xs → RunTo plain b e o [] m (last_of [] xs)
  alone-run h xs k =
      let a = whole-alone m (cut_out b o e) xs k in
      let there : o + (e - o) ≡ e = omega arith in
      let cut : drop o b ≡ front [] xs ++ drop e b =
      sym (take-append-drop (e - o) (drop o b)) ∙ ap₂ (λ (u v : Bytes). u ++ v) (sym a.entries) (drop-drop (e - o) o b ∙ ap (λ (n : ℕ). drop n b) there) in
      record { names = xs; count = a.count; run = front-run plain b e o [] xs (omega arith) w cut a.rises; last = refl }

  pub alone-stream : o ≤ e → (xs : List Bytes) → judged_alone m (cut_out b o e) ≡ Whole xs → Stream b o [] xs
  unfolding alone-run
  alone-stream h xs k = run-stream plain b e w o [] xs (alone-run h xs k).run
