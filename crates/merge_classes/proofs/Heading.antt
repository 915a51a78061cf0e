-- The name at the place of a first member.
use Rattle.std.proofs.Common.{◌≡◌, ◌<◌, ℕ, List, Some, length, map, sym, ◌∙◌, ap, arith, get_or}
use Rattle.std.specs.Prelude.{slice_get, slice_index}
use Rattle.std.specs.Option.{option_map}
use Rattle.std.proofs.lemmas.List.{length-map}
use Rattle.std.proofs.lemmas.Option.{get_or_from_slice_get, slice_get-get_or, slice_get-map}
use Rattle.value_equality.specs.Tables.{Table}
use Rattle.value_equality.specs.TableViews.{member_of}
use Rattle.merge_classes.specs.steps.ComputedFirsts.{AreFirsts}
use Rattle.merge_classes.specs.steps.Heads.{IsHead, member_names}

pub head_named : (members : List (ℕ × ℕ)) (t : Table) (firsts : List ℕ) (c place : ℕ) (m : ℕ × ℕ)
    → map member_of members ≡ t.members → AreFirsts t firsts → c < length firsts → place ≡ slice_index firsts c
    → m ≡ get_or members place m → IsHead t c m.0
head_named members t firsts c place m are all l at is =
    let first = all.first c l in
    let within = first.within in
    let one = length-map t.members (λ (a : ℕ × ℕ). a.0) in
    let two = length-map members member_of in
    let three = ap length are in
    let there : slice_get members place ≡ Some m =
    slice_get-get_or members place m (omega (arith, at, within, one, two, three)) ∙ ap Some (sym is) in
    let member : slice_get t.members place ≡ Some m =
    ap (λ ms. slice_get ms place) (sym are) ∙ slice_get-map member_of members place
    ∙ ap (option_map member_of) there in
    let name : slice_get (member_names t) place ≡ Some m.0 =
    slice_get-map (λ (a : ℕ × ℕ). a.0) t.members place ∙ ap (option_map (λ (a : ℕ × ℕ). a.0)) member in (
      slice_index firsts c,
      first,
      ap (slice_index (member_names t)) (sym at)
          ∙ get_or_from_slice_get (member_names t) place m.0 0 name,
    )
