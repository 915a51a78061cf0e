use Rattle.std.proofs.Common.{rules, subst, sym}
use Rattle.express_syntax.specs.ExpressionViews.{capitals}
use Rattle.express_syntax.specs.Views.{attribute_of}
use Rattle.schema_explicit_attributes.specs.Places.{places_of, Adds, of_attribute}
use Rattle.schema_explicit_attributes.proofs.Adding.{adds-place}
use Rattle.schema_explicit_attributes.proofs.attributes.add_attribute.Goals as goal

pub returns : goal.returns
returns c =
    subst (λ x. Adds (places_of c.args.places.now.items) c.args.row.now.items
    (of_attribute (capitals c.args.entity.now) (attribute_of x)) (places_of c.push.new.self.items) c.push-2.new.self.items)
    (sym c.in-Unqualified.is)
    (adds-place c.args.places.now.items c.push.new.self.items c.args.row.now.items c.push-2.new.self.items
    _ c.in-Ok.number c.in_ok-push.ensures.items
    c.in_ok-push-2.ensures.items (search rules))
