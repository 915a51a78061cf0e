use Rattle.std.proofs.Common.{◌+◌, ◌∙◌, refl, ap, sym, subst, map, take, length, []}
use Rattle.std.proofs.lemmas.Option.{slice_get_within, get_or_from_slice_get}
use Rattle.express_syntax.specs.Schemas.{Explicit}
use Rattle.express_syntax.specs.Views.{explicit_of}
use Rattle.schema_semantics.specs.Names.{own_names}
use Rattle.schema_names.specs.Schemas.{the_schema}
use Rattle.schema_attributes.proofs.Gathered.{seen, count-more}
use Rattle.schema_redeclarations.specs.steps.Speaking.{IsTypeAt, AreUsesOf}
use Rattle.schema_redeclarations.proofs.OfDeclarations.{no-uses, uses-more, own-part}
use Rattle.schema_redeclarations.proofs.Going.{take-at, all-taken}
use Rattle.schema_redeclarations.proofs.explicit_attributes.explicit_uses.Goals as goal

pub loop-n-init : goal.loop-n-init
loop-n-init c = (
  c.requires.clean,
  refl,
  refl,
  (λ n owned. subst (AreUsesOf (the_schema c.args.sources.now.names.now) n []) (sym c.new-uses.ensures.items)
      (no-uses (the_schema c.args.sources.now.names.now) n)),
)

pub bounds-row-n : goal.bounds-row-n
bounds-row-n c =
    let xs = c.args.explicits.now in
    let n = c.loop-n.n in
    let x = c.index-explicits-n.result in
    let at = seen explicit_of xs n x c.loop-n-test.true c.index-explicits-n.is in
    let (t, standing, typed) = c.requires.typed n (explicit_of x) at in
    slice_get_within c.args.row.now n t standing

pub add_explicit-requires : goal.add_explicit-requires
add_explicit-requires c =
    let s = the_schema c.args.sources.now.names.now in
    let xs = c.args.explicits.now in
    let n = c.loop-n.n in
    let x = c.index-explicits-n.result in
    let at = seen explicit_of xs n x c.loop-n-test.true c.index-explicits-n.is in
    let (t, standing, typed) = c.requires.typed n (explicit_of x) at in
    let (e, owned) = c.requires.owned in
    record {
      sources = c.requires.sources;
      clean = c.loop-n.invariant.0;
      many = c.loop-n.invariant.1 ∙ c.requires.many;
      typed = subst (IsTypeAt s (explicit_of x).data_type) (sym (get_or_from_slice_get c.args.row.now n t 0 standing))
          typed;
      owned = (
        e,
        own-part s e c.args.own.now c.loop-n.first (map explicit_of xs) n (explicit_of x) owned at
            c.loop-n.invariant.2,
      );
    }

pub loop-n-preserved : goal.loop-n-preserved
loop-n-preserved c =
    let s = the_schema c.args.sources.now.names.now in
    let xs = c.args.explicits.now in
    let ys = map explicit_of xs in
    let m = c.loop-n.n in
    let x = c.index-explicits-n.result in
    let at = seen explicit_of xs m x c.loop-n-test.true c.index-explicits-n.is in
    let first = c.loop-n.invariant.2 in
    let count = ap (λ zs. length (own_names zs)) c.as_slice.ensures in (
      c.in_ok-add_explicit.ensures.clean,
      c.in_ok-add_explicit.ensures.length ∙ c.loop-n.invariant.1,
      c.in_ok-first.ensures
          ∙ ap (λ k. c.loop-n.first + k) (c.in_ok-own_count.ensures ∙ count)
          ∙ ap (λ k. k + length (own_names (explicit_of x).attributes)) first
          ∙ sym (count-more (λ (y : Explicit). own_names y.attributes) ys m (explicit_of x) at),
      (λ n owned.
          subst (λ zs. AreUsesOf s n zs c.add_explicit.new.uses.items) (sym (take-at ys m (explicit_of x) at))
          (uses-more s n (take m ys) (explicit_of x) c.loop-n.uses.items c.add_explicit.new.uses.items
          (c.loop-n.invariant.3 n owned)
          (c.in_ok-add_explicit.ensures.uses n (own-part s n c.args.own.now c.loop-n.first ys m (explicit_of x) owned at
          first)))),
    )

pub returns : goal.returns
returns c = record {
  uses = λ n owned.
      subst (λ zs. AreUsesOf (the_schema c.args.sources.now.names.now) n zs c.loop-n.uses.items)
      (all-taken explicit_of c.args.explicits.now c.loop-n.n c.loop-n-test.false) (c.loop-n.invariant.3 n owned);
  clean = c.loop-n.invariant.0;
  length = c.loop-n.invariant.1;
}
