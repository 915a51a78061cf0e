-- Tables of data types that go on.
use Rattle.std.specs.Prelude.{◌≡◌, ℕ, ◌+◌, ◌<◌, List, [], ◌∷◌, ◌++◌, map, flat_map, length, get_or, take, Vec, Some, slice_get}
use Rattle.std.proofs.Common.{refl, ap, sym, subst, ◌∙◌}
use Rattle.std.proofs.lemmas.List.{append_assoc, append-nil, length-map}
use Rattle.express_syntax.specs.Schemas.{Schema, Declaration, DataType}
use Rattle.schema_names.specs.Numbers.{AreAt, AreNumberRowsOf}
use Rattle.schema_names.proofs.Rows.{map-joined, flat-joined, take-more}
use Rattle.schema_names.proofs.Items.{stay-at, joined-at, stay-rows, one-more-row}
use Rattle.schema_data_types.specs.declared.forms.Form.{Form}
use Rattle.schema_data_types.specs.NumberedTypes.{within, form_in, whole_types}
use Rattle.schema_data_types.specs.steps.Growing.{Adds}
use Rattle.schema_data_types.proofs.Elements.{at-front}

module _ (s : Schema) where
  pub adds-none : (old : List Form) (row : List ℕ) → Adds s old row [] old row
  adds-none old row = record {
    forms = sym (append-nil old);
    numbers = λ all before e h. subst (AreAt (all ++ []) row) (sym (append-nil before))
        (subst (λ xs. AreAt xs row before) (sym (append-nil all)) h);
  }

  first-within : (k : DataType) (all : List DataType) → slice_get (all ++ within k) (length all) ≡ Some k
  first-within k [] = at-front k
  first-within k (x ∷ all) = first-within k all

  pub adds-one : (old : List Form) (row : List ℕ) (k : DataType) (new : List Form) (after : List ℕ)
      → new ≡ old ++ map (form_in s) (within k) → after ≡ row ++ length old ∷ [] → Adds s old row (k ∷ []) new after
  adds-one old row k new after is behind = record {
    forms = is ∙ ap (λ ks. old ++ map (form_in s) ks) (sym (append-nil (within k)));
    numbers = λ all before e h. subst (λ ks. AreAt (all ++ ks) after (before ++ k ∷ [])) (sym (append-nil (within k)))
        (subst (λ r. AreAt (all ++ within k) r (before ++ k ∷ []))
        (sym (behind ∙ ap (λ n. row ++ n ∷ []) (ap length (sym e) ∙ length-map all (form_in s))))
        (joined-at (all ++ within k) row (length all ∷ []) before (k ∷ []) (stay-at all (within k) row before h)
        (ap (λ o. o ∷ []) (first-within k all))));
  }

  forms-joined : (ks ls : List DataType) → map (form_in s) (flat_map within (ks ++ ls))
      ≡ map (form_in s) (flat_map within ks) ++ map (form_in s) (flat_map within ls)
  forms-joined ks ls =
      ap (map (form_in s)) (flat-joined within ks ls)
      ∙ map-joined (form_in s) (flat_map within ks) (flat_map within ls)

  pub adds-joined : (a b c : List Form) (r t u : List ℕ) (ks ls : List DataType) → Adds s a r ks b t → Adds s b t ls c u
      → Adds s a r (ks ++ ls) c u
  adds-joined a b c r t u ks ls h k = record {
    forms = k.forms ∙ ap (λ xs. xs ++ map (form_in s) (flat_map within ls)) h.forms
        ∙ append_assoc a (map (form_in s) (flat_map within ks)) (map (form_in s) (flat_map within ls))
        ∙ ap (λ xs. a ++ xs) (sym (forms-joined ks ls));
    numbers = λ all before e g.
        subst (λ xs. AreAt xs u (before ++ (ks ++ ls)))
        (append_assoc all (flat_map within ks) (flat_map within ls) ∙ ap (λ xs. all ++ xs)
        (sym (flat-joined within ks ls)))
        (subst (AreAt ((all ++ flat_map within ks) ++ flat_map within ls) u) (append_assoc before ks ls)
        (k.numbers (all ++ flat_map within ks) (before ++ ks)
        (map-joined (form_in s) all (flat_map within ks) ∙ ap (λ xs. xs ++ map (form_in s) (flat_map within ks)) e
        ∙ sym h.forms) (h.numbers all before e g)));
  }

  -- Items of a list are added in turn.
  module _ {A V : Type 0} (seen : A → V) (of : V → DataType) where
    pub adds-next : (xs : List A) (i : ℕ) (x : A) (a b c : List Form) (r t u : List ℕ) → i < length xs
        → x ≡ get_or xs i x → Adds s a r (map of (map seen (take i xs))) b t → Adds s b t (of (seen x) ∷ []) c u
        → Adds s a r (map of (map seen (take (i + 1) xs))) c u
    adds-next xs i x a b c r t u lt at h k =
        subst (λ ks. Adds s a r ks c u) (sym next)
        (adds-joined a b c r t u (map of (map seen (take i xs))) (of (seen x) ∷ []) h k)
      where
        next : map of (map seen (take (i + 1) xs)) ≡ map of (map seen (take i xs)) ++ of (seen x) ∷ []
        next =
            ap (λ ys. map of (map seen ys)) (take-more xs i x lt at)
            ∙ ap (map of) (map-joined seen (take i xs) (x ∷ [])) ∙ map-joined of (map seen (take i xs)) (seen x ∷ [])

  -- Declarations in turn.
  abbrev pub given : List Declaration → List DataType
  given ds = flat_map (λ (d : Declaration). flat_map within (whole_types d)) ds

  module _ {A Z : Type 0} (seen : A → Declaration) where
    abbrev pub AreDone : List A → List Form → List (Vec ℕ Z) → Type 0
    AreDone xs forms rows =
        (forms ≡ map (form_in s) (given (map seen xs)))
        × AreNumberRowsOf whole_types (given (map seen xs)) (map seen xs) (map (λ v. v.items) rows)

    pub next-declaration : (xs : List A) (i : ℕ) (x : A) (old new : List Form) (rows after : List (Vec ℕ Z))
        (row : Vec ℕ Z) → i < length xs → x ≡ get_or xs i x → AreDone (take i xs) old rows
        → Adds s old [] (whole_types (seen x)) new row.items → after ≡ rows ++ row ∷ []
        → AreDone (take (i + 1) xs) new after
    next-declaration xs i x old new rows after row lt at (all, each) adds is =
        subst (λ ds. (new ≡ map (form_in s) (given ds))
        × AreNumberRowsOf whole_types (given ds) ds (map (λ v. v.items) after)) (sym next) (
          adds.forms ∙ ap (λ fs. fs ++ map (form_in s) (flat_map within ks)) all
              ∙ sym (map-joined (form_in s) before (flat_map within ks)) ∙ ap (map (form_in s)) (sym more),
          subst (λ xs. AreNumberRowsOf whole_types xs (done ++ seen x ∷ []) (map (λ v. v.items) after)) (sym more)
              (subst (AreNumberRowsOf whole_types (before ++ flat_map within ks) (done ++ seen x ∷ [])) (sym rows-are)
              (one-more-row whole_types (before ++ flat_map within ks) done (seen x) (map (λ v. v.items) rows) row.items
              (stay-rows whole_types before (flat_map within ks) done (map (λ v. v.items) rows) each)
              (adds.numbers before [] (sym all) refl))),
        )
      where
        done : List Declaration
        done = map seen (take i xs)

        ks : List DataType
        ks = whole_types (seen x)

        before : List DataType
        before = given done

        next : map seen (take (i + 1) xs) ≡ map seen (take i xs) ++ seen x ∷ []
        next = ap (map seen) (take-more xs i x lt at) ∙ map-joined seen (take i xs) (x ∷ [])

        more : given (map seen (take i xs) ++ seen x ∷ []) ≡ given (map seen (take i xs)) ++ flat_map within
            (whole_types (seen x))
        more =
            flat-joined (λ (d : Declaration). flat_map within (whole_types d)) (map seen (take i xs)) (seen x ∷ [])
            ∙ ap (λ ys. given (map seen (take i xs)) ++ ys) (append-nil (flat_map within (whole_types (seen x))))

        rows-are : map (λ v. v.items) after ≡ map (λ v. v.items) rows ++ row.items ∷ []
        rows-are = ap (map (λ v. v.items)) is ∙ map-joined (λ (v : Vec ℕ Z). v.items) rows (row ∷ [])
