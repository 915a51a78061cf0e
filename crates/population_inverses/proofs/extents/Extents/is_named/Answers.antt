use Rattle.std.proofs.Common.{◌≡◌, ◌∙◌, Some, ap, sym, subst, bytes_eq}
use Rattle.std.specs.Prelude.{◌&&◌}
use Rattle.std.proofs.lemmas.Option.{slice_get-get_or}
use Rattle.express_syntax.specs.ExpressionViews.{capitals}
use Rattle.schema_semantics.specs.Attributes.{same_place}
use Rattle.schema_names.specs.Schemas.{the_schema}
use Rattle.schema_underlying_types.specs.BaseViews.{name_at}
use Rattle.schema_constraints.specs.RuleViews.{inverse_seen}
use Rattle.schema_constraints.specs.declared.inverses.InverseAttribute.{InverseAttribute}
use Rattle.population_inverses.specs.steps.Places.{place_of_inverse}
use Rattle.population_inverses.proofs.Placing.{numbered-are, numbered-entity}
use Rattle.population_inverses.proofs.extents.Extents.is_named.Goals as goal

pub holder-requires : goal.holder-requires
holder-requires c =
    let x = c.args.self.now in
    let s = the_schema x.population.now.types.now.names in
    let i = c.index-inverse.result.now in
    numbered-entity s x.rules.now (numbered-are s x.rules.now x.ruled) c.args.number i
    (slice_get-get_or x.rules.now.inverses.items c.args.number i c.requires ∙ ap Some (sym c.index-inverse.ensures))

pub returns-then-eq : goal.returns-then-eq
returns-then-eq c i at =
    let x = c.args.self.now in
    let s = the_schema x.population.now.types.now.names in
    let j = c.index-inverse.result.now in
    let here : Some j ≡ Some i =
    ap Some c.index-inverse.ensures ∙ sym (slice_get-get_or x.rules.now.inverses.items c.args.number j c.requires) ∙ at in
    let same : j ≡ i = cc here in
    let second = bytes_eq (capitals j.name) (capitals c.args.attribute) in
    let one : c.eq.result ≡ bytes_eq (capitals c.holder.result) (capitals c.args.entity) = c.eq.ensures in
    let two : c.eq-then-eq.result ≡ second = c.eq-then-eq.ensures in
    let first : bytes_eq (name_at s j.entity) (capitals c.args.entity) ≡ c.eq.result =
    sym (one ∙ ap (λ n. bytes_eq n (capitals c.args.entity)) c.holder.ensures) in
    subst (λ (k : InverseAttribute). c.eq-then-eq.result
    ≡ same_place (place_of_inverse (inverse_seen s k)) (capitals c.args.entity, capitals c.args.attribute)) same
    (two ∙ sym (ap (λ b. b && second) (first ∙ c.if-eq.true)))

pub returns-else-eq : goal.returns-else-eq
returns-else-eq c i at =
    let x = c.args.self.now in
    let s = the_schema x.population.now.types.now.names in
    let j = c.index-inverse.result.now in
    let here : Some j ≡ Some i =
    ap Some c.index-inverse.ensures ∙ sym (slice_get-get_or x.rules.now.inverses.items c.args.number j c.requires) ∙ at in
    let same : j ≡ i = cc here in
    let second = bytes_eq (capitals j.name) (capitals c.args.attribute) in
    let one : c.eq.result ≡ bytes_eq (capitals c.holder.result) (capitals c.args.entity) = c.eq.ensures in
    let first : bytes_eq (name_at s j.entity) (capitals c.args.entity) ≡ c.eq.result =
    sym (one ∙ ap (λ n. bytes_eq n (capitals c.args.entity)) c.holder.ensures) in
    subst (λ (k : InverseAttribute). c.eq.result
    ≡ same_place (place_of_inverse (inverse_seen s k)) (capitals c.args.entity, capitals c.args.attribute)) same
    (c.if-eq.false ∙ sym (ap (λ b. b && second) (first ∙ c.if-eq.false)))
