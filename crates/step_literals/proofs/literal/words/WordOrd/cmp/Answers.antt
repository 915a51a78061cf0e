use Rattle.std.proofs.Common.{◌≡◌, refl, rules}
use Rattle.std.specs.Ordering.{nat_cmp}
use Rattle.std.specs.Char.{to_ascii_uppercase}
use Rattle.std.proofs.lemmas.Iterator.{YieldsList-from_slice, YieldsList-from_map}
use Rattle.std.proofs.lemmas.Iterator.Consumers.{YieldsList-at}
use Rattle.std.proofs.lemmas.Iterator.Search.{cmp_from_yields_List}
use Rattle.step_literals.proofs.literal.words.WordOrd.cmp.Goals as goal

pub returns : goal.returns
returns c =
    let mine = YieldsList-at c.map-mine.ensures.source (YieldsList-from_slice c.args.self.now.text.now
    c.iter.ensures.rest) in
    let theirs = YieldsList-at c.map-theirs.ensures.source (YieldsList-from_slice c.args.other.now.text.now
    c.iter-2.ensures.rest) in
    cmp_from_yields_List (λ x y. y ≡ x) c.map-theirs.result nat_cmp c.cmp.result c.cmp.ensures.ran
    (YieldsList-from_map _ to_ascii_uppercase mine c.map-mine.ensures.closure (λ x r q k. search rules))
    (λ it e. YieldsList-at e (YieldsList-from_map _ to_ascii_uppercase theirs c.map-theirs.ensures.closure
    (λ x r q k. search rules)))
    (λ x y. refl)
