-- Where the data types of elements stand.
use Rattle.std.specs.Prelude.{◌≡◌, ℕ, zero, suc, List, [], ◌∷◌, ◌++◌, flat_map, Option, None, Some, slice_get}
use Rattle.std.proofs.Common.{refl, subst}
use Rattle.express_syntax.specs.Schemas.{Schema, Declaration, DataType, integer, number, boolean, logical, real, string, binary, named, array, list, bag, set}
use Rattle.schema_names.proofs.Items.{stays}
use Rattle.schema_data_types.specs.NumberedTypes.{within, whole_types, all_data_types}

abbrev pub element : DataType → Option DataType
element (array b o u k) = Some k
element (list b u k) = Some k
element (bag b k) = Some k
element (set b k) = Some k
element k = None

pub at-front : (k : DataType) → slice_get (within k) 0 ≡ Some k
at-front integer = refl
at-front number = refl
at-front boolean = refl
at-front logical = refl
at-front (real w) = refl
at-front (string w) = refl
at-front (binary w) = refl
at-front (named n) = refl
at-front (array b o u k) = refl
at-front (list b u k) = refl
at-front (bag b k) = refl
at-front (set b k) = refl

-- behind each aggregate stand its elements
abbrev pub AreBehind : List DataType → Type 0
AreBehind xs = (i : ℕ) (k e : DataType) → slice_get xs i ≡ Some k → element k ≡ Some e → slice_get xs (suc i) ≡ Some e

behind-joined : (xs ys : List DataType) → AreBehind xs → AreBehind ys → AreBehind (xs ++ ys)
behind-joined [] ys f g i k e h el = g i k e h el
behind-joined (x ∷ xs) ys f g zero k e h el = stays xs ys 0 e (f zero k e h el)
behind-joined (x ∷ xs) ys f g (suc i) k e h el = behind-joined xs ys (λ j. f (suc j)) g i k e h el

behind-one : (x : DataType) → element x ≡ None → AreBehind (x ∷ [])
behind-one x none zero k e h el = absurd (cc)
behind-one x none (suc i) k e h el = absurd (cc)

behind-more : (x y : DataType) → element x ≡ Some y → AreBehind (within y) → AreBehind (x ∷ within y)
behind-more x y is f zero k e h el =
    let same : y ≡ e = cc in subst (λ z. slice_get (within y) 0 ≡ Some z) same (at-front y)
behind-more x y is f (suc i) k e h el = f i k e h el

behind-within : (k : DataType) → AreBehind (within k)
behind-within integer = behind-one integer refl
behind-within number = behind-one number refl
behind-within boolean = behind-one boolean refl
behind-within logical = behind-one logical refl
behind-within (real w) = behind-one (real w) refl
behind-within (string w) = behind-one (string w) refl
behind-within (binary w) = behind-one (binary w) refl
behind-within (named n) = behind-one (named n) refl
behind-within (array b o u k) = behind-more (array b o u k) k refl (behind-within k)
behind-within (list b u k) = behind-more (list b u k) k refl (behind-within k)
behind-within (bag b k) = behind-more (bag b k) k refl (behind-within k)
behind-within (set b k) = behind-more (set b k) k refl (behind-within k)

module _ {A : Type 0} (of : A → List DataType) (each : (x : A) → AreBehind (of x)) where
  behind-flat : (xs : List A) → AreBehind (flat_map of xs)
  behind-flat [] i k e h el = absurd (cc)
  behind-flat (x ∷ xs) i k e h el = behind-joined (of x) (flat_map of xs) (each x) (behind-flat xs) i k e h el

-- the data type of the elements of an aggregate has the next number
pub element-behind : (s : Schema) → AreBehind (all_data_types s)
element-behind s =
    behind-flat (λ (d : Declaration). flat_map within (whole_types d))
    (λ d. behind-flat within behind-within (whole_types d)) s.declarations
