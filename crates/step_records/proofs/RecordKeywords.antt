-- Keywords of partial records, by value.
use Rattle.std.proofs.Common.{◌≡◌, ℕ, ◌≤◌, ◌||◌, Bool, true, false, List, [], ◌∷◌, ◌++◌, length, take, drop, if◌then◌else◌, refl, sym, ap, ◌∙◌, true≢false}
use Rattle.std.specs.Prelude.{nat_eq}
use Rattle.std.specs.List.{list_any}
use Rattle.std.specs.Ordering.{on}
use Rattle.std.specs.Cmp.Lexicographic.{pointwise, bytes_decides}
use Rattle.std.proofs.lemmas.Bool.Decides.{same_from_decides}
use Rattle.std.proofs.lemmas.List.{drop-append-le, take-append-drop}
use Rattle.std.proofs.lemmas.List.Folds.{list_any-append}
use Rattle.indexmap.specs.IndexSet.{insert_key}
use Rattle.step_literals.specs.declared.literal.Word.{Word}
use Rattle.step_literals.specs.Words.{upper}
use Rattle.step_literals.specs.Values.{word_value}
use Rattle.step_literals.proofs.CaseLemmas.{same_without_case}
use Rattle.step_structures.specs.Trees.{is_said}

abbrev pub says : Word → Word → Bool
says w v = is_said v.text.now w.text.now

abbrev pub same_word : Word → Word → Bool
same_word = on word_value (pointwise nat_eq)

-- a word says another where they are equal
same_is_said : (v w : List ℕ) → pointwise nat_eq (upper v) (upper w) ≡ is_said w v
same_is_said v w =
    let case = same_without_case w v in
    let text = bytes_decides _ _ in
    sym (same_from_decides (is_said w v) (pointwise nat_eq (upper v) (upper w)) (
      λ e. sym (case.0 (text.0 e)),
      λ e. text.1 (case.1 (sym e)),
    ) (bytes_decides (upper v) (upper w)))

words_said : (w : Word) (ws : List Word) → list_any (same_word w) ws ≡ list_any (says w) ws
words_said w [] = refl
words_said w (v ∷ ws) = λ i. same_is_said w.text.now v.text.now i || words_said w ws i

said_in_two : (w : Word) (ws : List Word) → list_any (says w) ws ≡ (list_any (says w) (take 8 ws) || list_any
    (same_word w) (drop 8 ws))
said_in_two w ws = ap (list_any (says w)) (sym (take-append-drop 8 ws)) ∙ list_any-append (says w) (take 8 ws)
    (drop 8 ws) ∙ ap (λ b. list_any (says w) (take 8 ws) || b) (sym (words_said w (drop 8 ws)))

-- a keyword is looked for among the first eight
pub said_first : (w : Word) (ws : List Word) (first : Bool) → first ≡ list_any (says w) (take 8 ws) → first ≡ true
    → first ≡ list_any (says w) ws
said_first w ws first e found = found ∙ sym (said_in_two w ws
    ∙ ap (λ b. b || list_any (same_word w) (drop 8 ws)) (sym e ∙ found))

-- a keyword is looked for among the first eight, and then in the set
pub said_behind : (w : Word) (ws keys : List Word) (first behind : Bool) → first ≡ list_any (says w) (take 8 ws)
    → first ≡ false → keys ≡ drop 8 ws → behind ≡ list_any (same_word w) keys → behind ≡ list_any (says w) ws
said_behind w ws keys first behind e missed kept h = h ∙ ap (list_any (same_word w)) kept
    ∙ sym (said_in_two w ws ∙ ap (λ b. b || list_any (same_word w) (drop 8 ws)) (sym e ∙ missed))

-- what is none of them is not in the set
not_further : (w : Word) (ws : List Word) → list_any (says w) ws ≡ false → list_any (same_word w) (drop 8 ws) ≡ false
not_further w ws none = or_right (list_any (says w) ws) (list_any (says w) (take 8 ws))
    (list_any (same_word w) (drop 8 ws)) (said_in_two w ws) none
  where
    or_right : (a b c : Bool) → a ≡ (b || c) → a ≡ false → c ≡ false
    or_right a true c e f = absurd (true≢false (sym e ∙ f))
    or_right a false c e f = sym e ∙ f

-- one more behind the first eight
pub further_more : (ws : List Word) (w : Word) (old new : List Word) → old ≡ drop 8 ws
    → list_any (says w) ws ≡ false → 8 ≤ length ws → new ≡ insert_key same_word old w → new ≡ drop 8 (ws ++ w ∷ [])
further_more ws w old new kept alone many h =
    let absent : list_any (same_word w) old ≡ false = ap (list_any (same_word w)) kept ∙ not_further w ws alone in
    h ∙ ap (λ b. if b then old else old ++ w ∷ []) absent ∙ ap (λ l. l ++ w ∷ []) kept
    ∙ sym (drop-append-le 8 ws (w ∷ []) many)
