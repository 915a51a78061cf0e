use Rattle.std.proofs.Common.{refl}
use Rattle.step_records.proofs.builder.Builder.push_leaf.Goals as goal

pub push_leaf_at-requires : goal.push_leaf_at-requires
push_leaf_at-requires c = (
  c.args.token,
  record {
    is = c.requires.kind;
    stands = c.requires.stands;
    place = refl;
    length = refl;
  },
)

pub returns : goal.returns
returns c = c.push_leaf_at.ensures c.args.token (record {
  is = c.requires.kind;
  stands = c.requires.stands;
  place = refl;
  length = refl;
})
