-- A file that is written anew from one without findings has none.
use Rattle.std.specs.Prelude.{◌≡◌, ℕ, suc, Bool, true, false, cond, List, [], ◌∷◌, ◌++◌, map, ◌⊎◌}
use Rattle.std.proofs.Common.{refl, ◌∙◌, subst, inl, inr}
use Rattle.step_structures.specs.Trees.{ExchangeRow, Section, File, rows_of}
use Rattle.express_syntax.specs.Schemas.{Schema}
use Rattle.express_syntax.specs.Profile.{Every}
use Rattle.schema_semantics.specs.Names.{Name, Among}
use Rattle.schema_semantics.proofs.Lists.{among-left, among-right, among-either, among-map, from-map, every-at, every-of}
use Rattle.conformance.specs.declared.finding.FindingKind.TheVariants.{SchemaName}
use Rattle.conformance.specs.declared.finding.Spot.TheVariants.{Nothing}
use Rattle.conformance.specs.declared.finding.Finding.{Finding}
use Rattle.conformance.specs.Bases.{Domain}
use Rattle.conformance.specs.ParameterFits.{Target}
use Rattle.conformance.specs.Entities.{Entities}
use Rattle.conformance.specs.Findings.{target_in, row_findings, is_of_schema, findings}
use Rattle.conformance.specs.Populations.{Instance, instance_of, instances_from, population_of}
use Rattle.conformance.specs.RecordSpellings.{IsRowSpelt}
use Rattle.conformance.specs.Images.{IsLed, IsTypedImage}
use Rattle.conformance.specs.RewrittenFiles.{IsRewritten}
use Rattle.conformance.specs.PopulationLaws.{AreOf}
use Rattle.conformance.proofs.Instances.{front_empty, rest_empty}
use Rattle.conformance.proofs.Populations.{empty_each, every_other, population_conforms}
use Rattle.conformance.proofs.Leading.{images_conform}
use Rattle.conformance.proofs.Records.{no_findings}
use Rattle.conformance.proofs.Spelling.{row_spelt}
use Rattle.conformance.proofs.Rewriting.{instance_led, row_spelt_led}

named_so : (b : Bool)
    → cond {A = List Finding} b [] (record { kind = SchemaName; instance = 0; spot = Nothing } ∷ []) ≡ []
    → b ≡ true
named_so true e = refl
named_so false e = absurd (cc)

module _ (s : Schema) (d : Domain) (en : Entities) where
  -- an instance is that of a row
  row_behind : (k : ℕ) (xs : List Section) (j : Instance) → Among j (instances_from s d en k xs)
      → (l : ℕ) × (q : ExchangeRow) × Among q (rows_of xs) × (instance_of s d en l q ≡ j)
  row_behind k [] j m = elim m [ ]
  row_behind k (x ∷ xs) j m =
      by (among-either j (map (instance_of s d en k) x.rows) (instances_from s d en (suc k) xs) m)
      (row_behind (suc k) xs j)
    where
      by : Among j (map (instance_of s d en k) x.rows) ⊎ Among j (instances_from s d en (suc k) xs)
          → (Among j (instances_from s d en (suc k) xs)
          → (l : ℕ) × (q : ExchangeRow) × Among q (rows_of xs) × (instance_of s d en l q ≡ j))
          → (l : ℕ) × (q : ExchangeRow) × Among q (x.rows ++ rows_of xs) × (instance_of s d en l q ≡ j)
      by (inl m) more =
          let from = from-map (instance_of s d en k) x.rows j m in
          (k, from.0, among-left from.0 x.rows (rows_of xs) from.1, from.2)
      by (inr m) more = let rest = more m in (rest.0, rest.1, among-right rest.1 x.rows (rows_of xs) rest.2, rest.3)

  -- a row has an instance
  instance_there : (k : ℕ) (xs : List Section) (r : ExchangeRow) → Among r (rows_of xs)
      → (l : ℕ) × Among (instance_of s d en l r) (instances_from s d en k xs)
  instance_there k [] r m = elim m [ ]
  instance_there k (x ∷ xs) r m = by (among-either r x.rows (rows_of xs) m) (instance_there (suc k) xs r)
    where
      by : Among r x.rows ⊎ Among r (rows_of xs)
          → (Among r (rows_of xs) → (l : ℕ) × Among (instance_of s d en l r) (instances_from s d en (suc k) xs))
          → (l : ℕ) × Among (instance_of s d en l r)
          (map (instance_of s d en k) x.rows ++ instances_from s d en (suc k) xs)
      by (inl m) more = (
        k,
        among-left (instance_of s d en k r) (map (instance_of s d en k) x.rows) (instances_from s d en (suc k) xs)
            (among-map (instance_of s d en k) r x.rows m),
      )
      by (inr m) more =
          let rest = more m in (
            rest.0,
            among-right (instance_of s d en rest.0 r) (map (instance_of s d en k) x.rows)
                (instances_from s d en (suc k) xs) rest.1,
          )

  pub names_schema : (others : List Name) (f : File) → findings s d en others f ≡ [] → is_of_schema s others f ≡ true
  names_schema others f e = named_so (is_of_schema s others f) (front_empty _ _ e)

  pub rows_spelt : (others : List Name) (f : File) → findings s d en others f ≡ []
      → Every (IsRowSpelt s d en) (rows_of f.sections)
  rows_spelt others f e =
      let target : ℕ → Target = target_in s d en (rows_of f.sections) in
      every_other (λ r. row_findings s d en target r ≡ []) (IsRowSpelt s d en) (λ r h. row_spelt s d target en r h)
      (rows_of f.sections) (empty_each (row_findings s d en target) (rows_of f.sections) (rest_empty _ _ e))

  module _ (h : ℕ → ℕ) (f g : File) (new : IsRewritten s d en h f g) where
    image : IsTypedImage s d en h (population_of s d en f) (population_of s d en g)
    image =
        record {
          led = λ j m.
              let behind = row_behind 0 g.sections j m in
              let old = new.led behind.1 behind.2 in
              let there = instance_there 0 f.sections old.0 old.1 in (
                instance_of s d en there.0 old.0,
                there.1,
                subst (IsLed h (instance_of s d en there.0 old.0)) behind.3
                    (instance_led h s en d old.0 behind.1 old.2 there.0 behind.0),
                old.3,
              );
          types = new.types;
        }

    pub none_written : AreOf s d en → (others : List Name) → findings s d en others f ≡ []
        → findings s d en others g ≡ []
    none_written are others e =
        no_findings s d en are others g (new.schema others ∙ names_schema others f e)
        (every-of (IsRowSpelt s d en) (rows_of g.sections) (λ q m.
        let old = new.led q m in
        row_spelt_led h s en d old.0 q old.2
        (every-at (IsRowSpelt s d en) old.0 (rows_of f.sections) (rows_spelt others f e) old.1)))
        (images_conform s d en h (population_of s d en f) (population_of s d en g) image
        (population_conforms s d en are f others e))
