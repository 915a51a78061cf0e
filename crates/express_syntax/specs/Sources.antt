-- The text that the passages of a value belong to, and their byte offsets.
use Rattle.std.specs.Prelude.{◌≡◌, ℕ, List, [], ◌∷◌}
use Rattle.step_literals.specs.declared.literal.Word.{Word}
use Rattle.express_syntax.specs.Words.{name}
use Rattle.express_syntax.specs.ExpressionViews.{capitals}
use Rattle.express_syntax.specs.declared.passage.Passage.{Passage}
use Rattle.express_syntax.specs.declared.passage.Run.{Run}
use Rattle.express_syntax.specs.declared.passage.Routine.{Routine}
use Rattle.express_syntax.specs.declared.tree.Body.{Body}
use Rattle.express_syntax.specs.declared.tree.Body.TheVariants as bodies
use Rattle.express_syntax.specs.declared.tree.Rule.{Rule}
use Rattle.express_syntax.specs.declared.tree.Bound.{Bound}
use Rattle.express_syntax.specs.declared.tree.Bound.TheVariants as bounds
use Rattle.express_syntax.specs.declared.tree.Bounds.{Bounds}
use Rattle.express_syntax.specs.declared.tree.Width.{Width}
use Rattle.express_syntax.specs.declared.tree.Width.TheVariants as widths
use Rattle.express_syntax.specs.declared.tree.FixedWidth.{FixedWidth}
use Rattle.express_syntax.specs.declared.tree.DataType.{DataType}
use Rattle.express_syntax.specs.declared.tree.DataType.TheOpen.{DataType-F}
use Rattle.express_syntax.specs.declared.tree.DataType.TheOpen as layer
use Rattle.express_syntax.specs.declared.tree.DataType.TheFolds.{every-DataType}
use Rattle.express_syntax.specs.declared.tree.Underlying.{Underlying}
use Rattle.express_syntax.specs.declared.tree.Underlying.TheVariants as underlyings
use Rattle.express_syntax.specs.declared.tree.TypeDeclaration.{TypeDeclaration}
use Rattle.express_syntax.specs.declared.tree.Supertype.{Supertype}
use Rattle.express_syntax.specs.declared.tree.Supertype.TheVariants as supertypes
use Rattle.express_syntax.specs.declared.tree.Explicit.{Explicit}
use Rattle.express_syntax.specs.declared.tree.Derived.{Derived}
use Rattle.express_syntax.specs.declared.tree.Collection.{Collection}
use Rattle.express_syntax.specs.declared.tree.Collection.TheVariants as collections
use Rattle.express_syntax.specs.declared.tree.Inverse.{Inverse}
use Rattle.express_syntax.specs.declared.tree.Entity.{Entity}
use Rattle.express_syntax.specs.declared.tree.Skipped.{Skipped}
use Rattle.express_syntax.specs.declared.tree.Skipped.TheVariants as skips
use Rattle.express_syntax.specs.declared.tree.Declaration.{Declaration}
use Rattle.express_syntax.specs.declared.tree.Declaration.TheVariants as declarations
use Rattle.express_syntax.specs.declared.tree.SchemaTree.{SchemaTree}
use Rattle.express_syntax.specs.Passages.{StandsBehind, BeginsNext}
use Rattle.express_syntax.specs.Profile.{Every, Maybe}

abbrev pub IsPassageOf : List ℕ → Passage → Type 0
IsPassageOf text p = p.text.now ≡ text

abbrev pub IsRunOf : List ℕ → Run → Type 0
IsRunOf text r = IsPassageOf text r.passage

abbrev pub IsRoutineOf : List ℕ → Routine → Type 0
IsRoutineOf text r = IsPassageOf text r.passage

-- the number of bytes of the text before a run
abbrev pub place_of_run : Run → ℕ
place_of_run r = r.passage.from

-- The passage begins with the next token after this offset of its text. So it isn't another passage
-- with equal words elsewhere.
abbrev pub IsPassageAt : List ℕ → ℕ → Passage → Type 0
IsPassageAt text place p = IsPassageOf text p × BeginsNext text place p.words.0 p.from

abbrev pub IsRoutineAt : List ℕ → ℕ → Routine → Type 0
IsRoutineAt text place r = IsPassageAt text place r.passage

-- a name follows this offset, and `Stands` holds of the offset after the name
abbrev pub BehindName : List ℕ → ℕ → Word → (ℕ → Type 0) → Type 0
BehindName text place w Stands = (mid : ℕ) × StandsBehind text place (name (capitals w) ∷ []) mid × Stands mid

abbrev pub IsBodyOf : List ℕ → Body → Type 0
IsBodyOf text (bodies.SetAside r) = IsRunOf text r
IsBodyOf text (bodies.Expression x) = Unit {0}

abbrev pub IsRuleOf : List ℕ → Rule → Type 0
IsRuleOf text r = IsBodyOf text r.body

abbrev pub IsBoundOf : List ℕ → Bound → Type 0
IsBoundOf text (bounds.Other r) = IsRunOf text r.value
IsBoundOf text _ = Unit {0}

abbrev pub IsBoundsOf : List ℕ → Bounds → Type 0
IsBoundsOf text b = IsBoundOf text b.lower × IsBoundOf text b.upper

abbrev pub IsWidthOf : List ℕ → Width → Type 0
IsWidthOf text (widths.Other r) = IsRunOf text r
IsWidthOf text (widths.Value d) = Unit {0}

abbrev pub IsFixedWidthOf : List ℕ → FixedWidth → Type 0
IsFixedWidthOf text w = IsWidthOf text w.width

-- one layer of a data type, without the layers of its elements
abbrev pub IsLayerOf : List ℕ → DataType-F DataType → Type 0
IsLayerOf text (layer.Real w) = Maybe (λ b. IsWidthOf text b.value) w
IsLayerOf text (layer.String w) = Maybe (λ b. IsFixedWidthOf text b.value) w
IsLayerOf text (layer.Binary w) = Maybe (λ b. IsFixedWidthOf text b.value) w
IsLayerOf text (layer.Array o u b k) = IsBoundsOf text b.value
IsLayerOf text (layer.List u b k) = Maybe (IsBoundsOf text) b.value
IsLayerOf text (layer.Bag b k) = Maybe (IsBoundsOf text) b.value
IsLayerOf text (layer.Set b k) = Maybe (IsBoundsOf text) b.value
IsLayerOf text _ = Unit {0}

abbrev pub IsDataTypeOf : List ℕ → DataType → Type 0
IsDataTypeOf text = every-DataType (IsLayerOf text)

abbrev pub IsUnderlyingOf : List ℕ → Underlying → Type 0
IsUnderlyingOf text (underlyings.DataType k) = IsDataTypeOf text k
IsUnderlyingOf text _ = Unit {0}

abbrev pub IsTypeOf : List ℕ → TypeDeclaration → Type 0
IsTypeOf text t = IsUnderlyingOf text t.underlying × Maybe (λ rs. Every (IsRuleOf text) rs.items) t.rules

abbrev pub IsSupertypeOf : List ℕ → Supertype → Type 0
IsSupertypeOf text (supertypes.OfOther r) = IsRunOf text r
IsSupertypeOf text _ = Unit {0}

abbrev pub IsExplicitOf : List ℕ → Explicit → Type 0
IsExplicitOf text a = IsDataTypeOf text a.data_type

abbrev pub IsDerivedOf : List ℕ → Derived → Type 0
IsDerivedOf text a = IsDataTypeOf text a.data_type × IsBodyOf text a.body

abbrev pub IsCollectionOf : List ℕ → Collection → Type 0
IsCollectionOf text collections.One = Unit {0}
IsCollectionOf text (collections.Set b) = Maybe (IsBoundsOf text) b
IsCollectionOf text (collections.Bag b) = Maybe (IsBoundsOf text) b

abbrev pub IsInverseOf : List ℕ → Inverse → Type 0
IsInverseOf text a = IsCollectionOf text a.collection

abbrev pub IsEntityOf : List ℕ → Entity → Type 0
IsEntityOf text e =
    IsSupertypeOf text e.supertype
    × Every (IsExplicitOf text) e.explicits.items
    × Maybe (λ list. Every (IsDerivedOf text) list.items) e.derived
    × Maybe (λ list. Every (IsInverseOf text) list.items) e.inverses
    × Maybe (λ rs. Every (IsRuleOf text) rs.items) e.rules

abbrev pub IsSkippedOf : List ℕ → Skipped → Type 0
IsSkippedOf text (skips.Function w r) = IsRoutineOf text r
IsSkippedOf text (skips.Procedure w r) = IsRoutineOf text r
IsSkippedOf text (skips.Rule w p) = IsPassageOf text p
IsSkippedOf text (skips.Constants p) = IsPassageOf text p
IsSkippedOf text (skips.SubtypeConstraint w p) = IsPassageOf text p

-- the passage follows the name of the declaration; for constants it follows this offset
abbrev pub IsSkippedAt : List ℕ → ℕ → Skipped → Type 0
IsSkippedAt text place (skips.Function w r) = BehindName text place w (λ mid. IsRoutineAt text mid r)
IsSkippedAt text place (skips.Procedure w r) = BehindName text place w (λ mid. IsRoutineAt text mid r)
IsSkippedAt text place (skips.Rule w p) = BehindName text place w (λ mid. IsPassageAt text mid p)
IsSkippedAt text place (skips.Constants p) = IsPassageAt text place p
IsSkippedAt text place (skips.SubtypeConstraint w p) = BehindName text place w (λ mid. IsPassageAt text mid p)

abbrev pub IsDeclarationOf : List ℕ → Declaration → Type 0
IsDeclarationOf text (declarations.Type t) = IsTypeOf text t
IsDeclarationOf text (declarations.Entity e) = IsEntityOf text e
IsDeclarationOf text (declarations.Skipped s) = IsSkippedOf text s

abbrev pub IsSchemaOf : List ℕ → SchemaTree → Type 0
IsSchemaOf text x = Every (IsDeclarationOf text) x.declarations.items
