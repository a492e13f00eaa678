-- Document 02, CR 13: a full book with one name more, or one less; building it afresh from the changed list gives the same bytes. Refusals: 2, also for a book
-- that is not full; 5; 14 where the name is there, or 15 where it is not; 7; 9; 4.
--     seat, is_there     where a name stands among others, or would stand; whether it is there, by the rule of their book
--     with_name, without_name     the names with that one more, with that one less
--     added_to, removed_from, added, removed     by what the bytes open as; the calls, and the lent room afterwards
-- The laws are in proofs/Revising.antt. Assumes nothing: these are definitions.
use Rattle.std.specs.Prelude.{ℕ, suc, Bool, List, ◌∷◌, ◌++◌, map, eqb, ltb, drop, length, take}
use Rattle.words.specs.Words.{Bytes, Rule, pick, word}
use Rattle.format.specs.Full.{is_full}
use Rattle.format.specs.Kinds.{BookKind, form_of, mark_of, rule_of}
use Rattle.format.specs.Records.{Names, good_length, most_names}
use Rattle.format.specs.Book.{Book, NoBook, Opened, opened}
use Rattle.format.specs.Outcomes.{Written, refused}
use Rattle.answers.specs.Calls.{built_from}
use Rattle.answers.specs.Questions.{exact, place}

abbrev pub seat : Rule → Bytes → List Bytes → ℕ
seat ρ x xs = place (word ρ x) (map (word ρ) xs)

abbrev pub is_there : Rule → Bytes → List Bytes → Bool
is_there ρ x xs = eqb (exact (word ρ x) (map (word ρ) xs)).1 1

unfoldable pub with_name : Rule → Bytes → List Bytes → List Bytes
with_name ρ x xs = take (seat ρ x xs) xs ++ (x ∷ drop (seat ρ x xs) xs)

unfoldable pub without_name : Rule → Bytes → List Bytes → List Bytes
without_name ρ x xs = take (seat ρ x xs) xs ++ drop (suc (seat ρ x xs)) xs

-- the book of the changed list, of the same kind and block size: 9, 4
abbrev pub rebuilt : BookKind → ℕ → Bytes → List Bytes → Written
rebuilt κ k room xs = built_from (rule_of κ) (form_of κ) (mark_of κ) k room (Names xs)

unfoldable pub added_to : Bytes → Bytes → Opened → Written
added_to x room NoBook = record { answer = refused 2; room = room }
added_to x room (Book κ k xs) =
    let no : ℕ → Written = λ code. record { answer = refused code; room = room } in
    pick (is_full κ)
    (pick (good_length (length x))
    (pick (is_there (rule_of κ) x xs) (no 14) (pick (ltb (length xs) most_names) (rebuilt κ k room (with_name (rule_of κ) x xs)) (no 7)))
    (no 5)) (no 2)

unfoldable pub removed_from : Bytes → Bytes → Opened → Written
removed_from x room NoBook = record { answer = refused 2; room = room }
removed_from x room (Book κ k xs) =
    let no : ℕ → Written = λ code. record { answer = refused code; room = room } in
    pick (is_full κ) (pick (good_length (length x)) (pick (is_there (rule_of κ) x xs) (rebuilt κ k room (without_name (rule_of κ) x xs)) (no 15)) (no 5)) (no 2)

unfoldable pub added : Bytes → Bytes → Bytes → Written
added s x room = added_to x room (opened s)

unfoldable pub removed : Bytes → Bytes → Bytes → Written
removed s x room = removed_from x room (opened s)
