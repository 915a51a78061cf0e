-- Whether the parameters of a record name one schema.
use Rattle.std.proofs.Common.{◌≡◌, ◌<◌, ℕ, false, List, [], ◌∷◌, ◌++◌, length, drop, Some, IsTrue, ◌↔◌, refl, sym, ap, ◌∙◌, subst, arith, length-append, slice_get}
use Rattle.std.proofs.lemmas.Bool.{false≢true}
use Rattle.step_structures.specs.Words.{string}
use Rattle.step_structures.specs.Trees.{Tree, leaf, group, Trees, none, one, Record}
use Rattle.step_structures.specs.Fits.{NamesSchema}
use Rattle.step_records.specs.Cells.{all_of}
use Rattle.step_records.specs.Params.{parts_of}
use Rattle.step_records.proofs.Parts.{all_in}
use Rattle.step_records.specs.steps.Readers.{Progress}
use Rattle.step_records.specs.steps.Records.{tree_of_record}
use Rattle.step_exchange.specs.Views.{record_of, record_in}
use Rattle.step_exchange.specs.steps.Keeping.{Keeps}

-- a record's parameters stand behind its keyword
pub values_behind : (xs : List Tree) → (record_of xs).values ≡ all_of (drop 1 xs)
values_behind [] = refl
values_behind (x ∷ xs) = refl

pub values_kept : (p : Record) → (record_in (tree_of_record p)).values ≡ p.values
values_kept p = all_in p.values

never : (A : Type 0) → (A → ⊥) → IsTrue false ↔ A
never A f = (λ (h : IsTrue false). absurd (false≢true h), λ a. absurd (f a))

-- exactly one
pub the_one : (xs : List Tree) (x : Tree) → length xs ≡ 1 → slice_get xs 0 ≡ Some x → xs ≡ x ∷ []
the_one [] x l e = absurd (cc)
the_one (y ∷ []) x l e = let same : y ≡ x = cc in ap (λ z. z ∷ []) same
the_one (y ∷ z ∷ xs) x l e = absurd (omega (arith, l))

two_params : (x y : Tree) (xs : Trees) → NamesSchema (one x (one y xs)) → ⊥
two_params (group (one (leaf (string text)) none)) y xs h = h
two_params _ y xs h = h

two_names : (x y : Tree) (xs : Trees) → NamesSchema (one (group (one x (one y xs))) none) → ⊥
two_names (leaf (string text)) y xs h = h
two_names _ y xs h = h

-- not one parameter
pub not_one : (xs : List Tree) → (length xs ≡ 1 → ⊥) → NamesSchema (all_of xs) → ⊥
not_one [] f h = h
not_one (x ∷ []) f h = f refl
not_one (x ∷ y ∷ xs) f h = two_params x y (all_of xs) h

-- a list that isn't of one name doesn't name a schema
pub not_one_name : (xs : List Tree) → (length xs ≡ 1 → ⊥) → NamesSchema (one (group (all_of xs)) none) → ⊥
not_one_name [] f h = h
not_one_name (x ∷ []) f h = f refl
not_one_name (x ∷ y ∷ xs) f h = two_names x y (all_of xs) h

-- so the answer is no
pub no_schema : (parts values : List Tree) (line : Tree) → parts ≡ parts_of line → values ≡ drop 1 parts
    → (NamesSchema (all_of values) → ⊥) → IsTrue false ↔ NamesSchema (record_in line).values
no_schema parts values line e f h =
    let all : (record_in line).values ≡ all_of values = values_behind (parts_of line) ∙ ap (λ l. all_of (drop 1 l))
    (sym e) ∙ ap all_of (sym f) in
    never (NamesSchema (record_in line).values) (λ n. h (subst NamesSchema all n))

-- the record that is kept last
last_is : (k : List Tree) (t : Tree) → slice_get (k ++ t ∷ []) (length k) ≡ Some t
last_is [] t = refl
last_is (x ∷ k) t = last_is k t

pub line_is : (old new : Progress) (p : Record) (kept : List Tree) (n : ℕ) (x : Tree) → Keeps old (p ∷ []) new
    → n ≡ length old.built.kept → kept ≡ new.built.kept → slice_get kept n ≡ Some x → x ≡ tree_of_record p
line_is old new p kept n x h size e got =
    let all : kept ≡ old.built.kept ++ tree_of_record p ∷ [] = e ∙ ap (λ b. b.kept) h in
    let there : slice_get kept n ≡ Some (tree_of_record p) = (λ i. slice_get (all i) (size i))
    ∙ last_is old.built.kept (tree_of_record p) in
    let same : Some x ≡ Some (tree_of_record p) = sym got ∙ there in
    cc

pub line_within : (old new : Progress) (p : Record) (kept : List Tree) (n : ℕ) → Keeps old (p ∷ []) new
    → n ≡ length old.built.kept → kept ≡ new.built.kept → n < length kept
line_within old new p kept n h size e =
    let all : kept ≡ old.built.kept ++ tree_of_record p ∷ [] = e ∙ ap (λ b. b.kept) h in
    omega (arith, ap length all, length-append old.built.kept (tree_of_record p ∷ []), size)

pub names_of_line : (p : Record) (x : Tree) → x ≡ tree_of_record p → NamesSchema (record_in x).values
    → NamesSchema p.values
names_of_line p x e n = subst NamesSchema (ap (λ t. (record_in t).values) e ∙ values_kept p) n

pub line_of_names : (p : Record) (x : Tree) → x ≡ tree_of_record p → NamesSchema p.values
    → NamesSchema (record_in x).values
line_of_names p x e n = subst NamesSchema (sym (ap (λ t. (record_in t).values) e ∙ values_kept p)) n
