-- There are functions that say what a schema says of its attributes.
use Rattle.std.specs.Prelude.{List, Option}
use Rattle.graphs.specs.Graphs.{Graph}
use Rattle.express_syntax.specs.Schemas.{Schema}
use Rattle.schema_semantics.specs.Names.{Name}
use Rattle.schema_semantics.specs.Faults.{IsResolved}
use Rattle.schema_semantics.specs.Attributes.{Derivation}
use Rattle.schema_explicit_attributes.specs.Supertypes.{AreAbove}
use Rattle.schema_explicit_attributes.specs.Places.{HavePlaces}
use Rattle.schema_explicit_attributes.specs.SupertypeLines.{HaveLines}
use Rattle.schema_constraints.specs.declared.inverses.InverseAttribute.{InverseAttribute as InverseRow}
use Rattle.conformance.specs.Attributes.{Source, Formula, Attributes, IsFormula, IsNamed, IsInGroup, AreAttributes}
use Rattle.schema_attribute_sources.specs.SourceViews.{types_seen, inverses_seen}
use Rattle.schema_attribute_sources.specs.StoredAttributes.{AreInverses}
use Rattle.schema_attribute_sources.proofs.Agreeing.{numbered, named-alike, group-alike}
use Rattle.schema_attribute_sources.proofs.Finding.{some-named, some-in-group}
use Rattle.schema_attribute_sources.proofs.Renaming.{some-defined}

module _ (s : Schema) (r : IsResolved s) (lines : Graph) (h : HaveLines s lines) (above : Graph)
    (up : AreAbove s above) (rows : Graph) (places : HavePlaces s rows) (inverses : List InverseRow)
    (inverted : AreInverses s inverses) where
  named-by : (types : List Name) (a : Name) → (o : Option Source) × IsNamed s (inverses_seen s inverses) types a o
  named-by types a =
      let own = numbered s types in
      let (o, is) =
      some-named s r lines h above up rows places inverses inverted own.numbers own.known a in
      (o, named-alike s types (types_seen s own.numbers) own.agree (inverses_seen s inverses) a o is)

  grouped-by : (types : List Name) (e a : Name)
      → (x : Source) × IsInGroup s (inverses_seen s inverses) types e a x
  grouped-by types e a =
      let own = numbered s types in
      let (x, is) =
      some-in-group s r lines h above up rows places inverses inverted own.numbers own.known a e in
      (x, group-alike s types (types_seen s own.numbers) own.agree (inverses_seen s inverses) e a x is)

  pub attributes-are : (formula : Derivation → Option Formula) → ((e : Derivation) → IsFormula s e (formula e))
      → (attributes : Attributes) × AreAttributes s (inverses_seen s inverses) attributes
  attributes-are formula are = (
    record {
      source = λ types a. (named-by types a).0;
      source_of = λ types e a. (grouped-by types e a).0;
      formula = formula;
      is_defined_by = λ m n. (some-defined s r m n).0;
    },
    record {
      sources = λ types a. (named-by types a).1;
      groups = λ types e a. (grouped-by types e a).1;
      formulas = are;
      names = λ m n. (some-defined s r m n).1;
    },
  )
