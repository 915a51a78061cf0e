-- Shapes as steps of a walk: the kind of a shape, and the data type of its elements.
use Rattle.std.specs.Prelude.{◌≡◌, ℕ, zero, suc, Bool, true, ◌&&◌, List, get_or, eqb, Option, Some, None}
use Rattle.schema_data_types.specs.declared.shapes.Shape.{Shape}
use Rattle.schema_data_types.specs.declared.shapes.Shape.TheVariants.{Numbers, Logicals, Strings, Binaries, Items, Instances, Arrays, Lists, Collections}
use Rattle.schema_data_types.specs.declared.shapes.Comparison.{Comparison}
use Rattle.schema_data_types.specs.declared.shapes.Comparison.TheVariants.{Apart, Alike, Elements}

-- A number for each kind of shape.
abbrev pub kind : Shape → ℕ
kind Numbers = 0
kind Logicals = 1
kind Strings = 2
kind Binaries = 3
kind Items = 4
kind Instances = 5
kind (Arrays k) = 6
kind (Lists k) = 7
kind (Collections k) = 8

abbrev pub element : Shape → Option ℕ
element (Arrays k) = Some k
element (Lists k) = Some k
element (Collections k) = Some k
element f = None

abbrev pub Tells : Shape → Shape → Comparison → Type 0
Tells f g Apart = kind f ≡ kind g → ⊥
Tells f g Alike = (kind f ≡ kind g) × (element f ≡ None) × (element g ≡ None)
Tells f g (Elements k l) = (kind f ≡ kind g) × (element f ≡ Some k) × (element g ≡ Some l)

-- The kind of the shape at k.
abbrev pub kind_at : List Shape → ℕ → ℕ
kind_at shapes k = kind (get_or shapes k Numbers)

abbrev pub onward : Option ℕ → ℕ → ℕ
onward None k = k
onward (Some l) k = l

abbrev pub next : List Shape → ℕ → ℕ
next shapes k = onward (element (get_or shapes k Numbers)) k

-- The walks from k and l agree in kind for this count of steps.
unfoldable pub agree : List Shape → ℕ → ℕ → ℕ → Bool
agree shapes zero k l = true
agree shapes (suc steps) k l =
    eqb (kind_at shapes k) (kind_at shapes l) && agree shapes steps (next shapes k) (next shapes l)
