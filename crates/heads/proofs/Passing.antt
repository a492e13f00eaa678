-- Laws of passing records.
--     PassesOn, passes-start, passes-fits, passes-more, passes-ended     record by record
-- Assumes nothing.
use Prim.Native.Nat.{ℕ, ◌+◌, ◌≤◌}
use native.Mathlib.Omega.{arith}
use mathlib.Core.Path.{◌≡◌, refl, sym, ap, ◌∙◌, subst}
use mathlib.Core.List.{List, [], ◌∷◌, ◌++◌, append_assoc, append-nil}
use lib.ListN.{drop_of_length-le, get_or, length, length-append, length-drop}
use lib.Seq.{take_all}
use Rattle.words.specs.Words.{Bytes}
use Rattle.format.specs.Records.{encode}
use Rattle.format.proofs.Records.{encode-append}
use Rattle.numbers.proofs.Parts.{part_length}
use Rattle.heads.specs.Heads.{RestOf}
use Rattle.heads.specs.Passing.{ListAsk, PassedTo}
use Rattle.heads.proofs.Heads.{head_read, no-records}

-- of the names xs those of `done` are passed, which are so many
pub record Part (s : Bytes) (count at passed : ℕ) (xs : List Bytes) : Type 0 where
  pub done : List Bytes
  pub others : List Bytes
  pub all : xs ≡ done ++ others
  pub counted : length done ≡ passed
  pub rest : RestOf s at others
  pub size : at ≡ length (encode done)

pub record PassesOn (s : Bytes) (count at passed : ℕ) : Type 0 where
  pub within : at ≤ length s
  pub state : (xs : List Bytes) → RestOf s 0 xs → Part s count at passed xs

pub passes-start : (s : Bytes) (count : ℕ) → PassesOn s count 0 0
unfolding encode
passes-start s count = record {
  within = omega arith;
  state = λ xs r. record { done = []; others = xs; all = refl; counted = refl; rest = r; size = refl };
}

module _ {s : Bytes} {count at passed : ℕ} (k : PassesOn s count at passed) where
  module _ (n : at ≡ length s → ⊥) (size : ℕ) (e : size ≡ 1 + get_or s at 0) where
    pub passes-fits : ListAsk s → at + size ≤ length s
    passes-fits q = (head_read s at size (k.state q.xs q.rest).others (k.state q.xs q.rest).rest n e).fits

    pub passes-more : ListAsk s → PassesOn s count (at + size) (passed + 1)
    passes-more q = record { within = passes-fits q; state = λ xs r. more xs (k.state xs r) }
      where
        more : (xs : List Bytes) → Part s count at passed xs → Part s count (at + size) (passed + 1) xs
        more xs o =
            let h = head_read s at size o.others o.rest n e in
            let long : length (encode (h.x ∷ [])) ≡ size = ap length (sym h.record_is) ∙ part_length s at size h.fits in
            record {
              done = o.done ++ (h.x ∷ []);
              others = h.others;
              all = o.all ∙ ap (λ (l : List Bytes). o.done ++ l) h.all ∙ sym (append_assoc o.done (h.x ∷ []) h.others);
              counted = omega (arith, o.counted, length-append o.done (h.x ∷ []));
              rest = h.rest;
              size = omega (arith, o.size, ap length (encode-append o.done (h.x ∷ [])), length-append (encode o.done) (encode (h.x ∷ [])), long);
            }

  pub passes-ended : passed ≤ count → at ≡ length s → PassedTo s count at
  passes-ended few e = record {
    rest = λ xs r. subst (RestOf s at) (none (k.state xs r) ∙ sym (drop_of_length-le xs {i = count} (long (k.state xs r)))) (k.state xs r).rest;
    place = λ xs r. (k.state xs r).size ∙ ap (λ (l : List Bytes). length (encode l)) (sym (whole (k.state xs r)) ∙ sym (take_all count xs (long (k.state xs r))));
  }
    where
      none : {xs : List Bytes} (o : Part s count at passed xs) → o.others ≡ []
      none o = no-records o.others (omega (arith, ap length o.rest.bytes, length-drop at s))

      whole : {xs : List Bytes} (o : Part s count at passed xs) → xs ≡ o.done
      whole o = o.all ∙ ap (λ (l : List Bytes). o.done ++ l) (none o) ∙ append-nil o.done

      long : {xs : List Bytes} (o : Part s count at passed xs) → length xs ≤ count
      long o = omega (arith, ap length (whole o), o.counted)
