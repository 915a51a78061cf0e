-- The instances of a section that are read and built.
use Rattle.std.proofs.Common.{◌≡◌, ℕ, ◌<◌, true, List, [], ◌∷◌, ◌++◌, length, map, sym, ap, ◌∙◌, append_assoc, append-nil, codes}
use Rattle.std.proofs.lemmas.List.{map-append}
use Rattle.step_lexer.specs.declared.token.Mark.TheVariants.{Semicolon}
use Rattle.step_lexer.specs.declared.token.Token.{Token}
use Rattle.step_lexer.specs.Reading.{Takes, left}
use Rattle.step_structures.specs.Words.{mark, located}
use Rattle.step_structures.specs.Trees.{Tree, ExchangeRow, this}
use Rattle.step_structures.specs.steps.Predict.{Just, is_word}
use Rattle.step_records.specs.steps.Readers.{Progress, reading}
use Rattle.step_records.specs.steps.Steps.{Passes}
use Rattle.step_records.specs.steps.Records.{TakesRow}
use Rattle.step_records.specs.steps.Instances.{tree_of_row, IsNextName, TakesRows}
use Rattle.step_records.proofs.RowSteps.{RowsSoFar, rows_start, rows_next, rows_end, rows_smaller}

-- the instances so far, and the trees that are kept of them
pub record InstancesSoFar (before : List ℕ) (old : Progress) (names : List ℕ) (now : Progress) : Type 0 where
  pub so : RowsSoFar before (reading old) names (reading now)
  pub keeps : now.built ≡ record old.built { kept = old.built.kept ++ map tree_of_row so.rows }

pub instances_begin : (before : List ℕ) (r : Progress) → InstancesSoFar before r before r
unfolding rows_start
instances_begin before r = record {
  so = rows_start before (reading r);
  keeps = ap {A = List Tree} (λ l. record r.built { kept = l }) (sym (append-nil r.built.kept));
}

pub instances_next : (before : List ℕ) (old : Progress) (names : List ℕ) (here a b : Progress) (t : Token) (n : ℕ)
    → InstancesSoFar before old names here → Takes (reading here) t (reading a) → a.built ≡ here.built
    → IsNextName names (located t) n → TakesRow a b → InstancesSoFar before old (names ++ n ∷ []) b
unfolding rows_next
instances_next before old names here a b t n s h e is v =
    let k = old.built.kept in
    let ts = map tree_of_row s.so.rows in
    let r : ExchangeRow = record { name = n; form = v.form } in
    let from : a.built ≡ record old.built { kept = k ++ ts } = e ∙ s.keeps in
    let all : (k ++ ts) ++ tree_of_row r ∷ [] ≡ k ++ map tree_of_row (s.so.rows ++ r ∷ []) =
    append_assoc k ts (tree_of_row r ∷ []) ∙ ap (λ l. k ++ l) (sym (map-append tree_of_row s.so.rows (r ∷ []))) in
    record {
      so = rows_next before (reading old) names (reading here) t n (reading a) v.form (reading b) s.so h is
          (v.fits, v.passes);
      keeps = v.keeps ∙ (λ i. record (from i) { kept = (from i).kept ++ tree_of_row r ∷ [] })
          ∙ (λ i. record old.built { kept = all i });
    }

pub instances_end : (before : List ℕ) (old : Progress) (names : List ℕ) (here a b : Progress)
    (t : Token) → InstancesSoFar before old names here → Takes (reading here) t (reading a)
    → a.built ≡ here.built → is_word (codes "ENDSEC") (located t).lookahead ≡ true → b.built ≡ a.built
    → Passes (Just Semicolon ∷ []) [] [] (this (mark Semicolon) ∷ []) (reading a) (reading b)
    → TakesRows before names old b
instances_end before old names here a b t s h e c f m = record {
  rows = s.so.rows;
  are = s.so.are;
  keeps = f ∙ e ∙ s.keeps;
  fits = s.so.fits;
  passes = rows_end before (reading old) names (reading here) t (reading a) (reading b) s.so h c m;
}

pub instances_less : (here a b : Progress) (t : Token) → Takes (reading here) t (reading a) → TakesRow a b
    → length (left (reading b)) < length (left (reading here))
instances_less here a b t h v = rows_smaller (reading here) t (reading a) v.form (reading b) h (v.fits, v.passes)
