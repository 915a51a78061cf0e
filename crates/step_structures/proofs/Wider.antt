-- What relaxed rules let stand.
use Rattle.std.proofs.Common.{◌≡◌, ℕ, ◌≤◌, nat_lt, Bool, true, false, ◌&&◌, if◌then◌else◌, List, Ok, Err, refl, sym, ◌∙◌, arith}
use Rattle.parsing.proofs.Wider.{IsWider}
use Rattle.step_structures.specs.declared.fault.FaultKind.{FaultKind}
use Rattle.step_structures.specs.declared.fault.FaultKind.TheVariants as kinds
use Rattle.step_structures.specs.declared.fault.LeftOut.TheVariants as left_out
use Rattle.step_structures.specs.Fits.{StructureRules}
use Rattle.step_structures.specs.steps.Predict.{Symbol, Next, next}
use Rattle.step_structures.proofs.Looser.{IsLooser}
use Rattle.step_structures.proofs.Forms.{Form, fixed, by_level, by_section, by_head, by_keyword, by_name, form}

pub looser_self : (rules : StructureRules) → IsLooser rules rules
looser_self rules = record {
  levels = omega arith;
  instances = omega arith;
  sections = omega arith;
  distinct = λ e. e;
  headed = λ e. e;
}

lt_more : (n a b : ℕ) → a ≤ b → nat_lt n a ≡ true → nat_lt n b ≡ true
lt_more n a b h e = grind arith

keeps_test : (a b : Bool) (k : FaultKind) (ys zs : List Symbol) → (a ≡ true → b ≡ true)
    → (let v : Next = if a then Ok ys else Err k in v) ≡ Ok zs → (let v : Next = if b then Ok ys else Err k in v) ≡ Ok
    zs
keeps_test true b k ys zs h e = rw (h refl) e
keeps_test false b k ys zs h e = cc

keeps_rule : (a b c : Bool) (k : FaultKind) (v v' : Next) (zs : List Symbol) → (a ≡ false → b ≡ false)
    → (v ≡ Ok zs → v' ≡ Ok zs) → (let u : Next = if a && c then Err k else v in u) ≡ Ok zs
    → (let u : Next = if b && c then Err k else v' in u) ≡ Ok zs
keeps_rule true true true k v v' zs h f e = cc
keeps_rule true true false k v v' zs h f e = f e
keeps_rule true false true k v v' zs h f e = cc
keeps_rule true false false k v v' zs h f e = f e
keeps_rule false true c k v v' zs h f e = let g : true ≡ false = h refl in cc
keeps_rule false false c k v v' zs h f e = f e

-- what may stand may stand under looser rules
pub wider : (rules w : StructureRules) → IsLooser rules w → IsWider (next rules) (next w)
wider rules w i y s zs e = by (form y s)
  where
    by : Form y s → next w y s ≡ Ok zs
    by (fixed v h t) = h w ∙ sym (h rules) ∙ e
    by (by_level n ys h l o) = h w ∙ keeps_test (nat_lt n rules.levels) (nat_lt n w.levels) kinds.TooDeep ys zs
        (lt_more n rules.levels w.levels i.levels) (sym (h rules) ∙ e)
    by (by_section n ys h l o) = h w ∙ keeps_test (nat_lt n rules.sections) (nat_lt n w.sections)
        (kinds.LeftOut left_out.TooMany) ys zs (lt_more n rules.sections w.sections i.sections) (sym (h rules) ∙ e)
    by (by_head c ys h o) = h w ∙ keeps_rule rules.headed w.headed c kinds.HeaderFault (Ok ys) (Ok ys) zs i.headed
        (λ g. g) (sym (h rules) ∙ e)
    by (by_keyword c ys h o) = h w ∙ keeps_rule rules.distinct w.distinct c kinds.DuplicateName (Ok ys) (Ok ys) zs
        i.distinct (λ g. g) (sym (h rules) ∙ e)
    by (by_name c n ys h l o) =
        h w ∙ keeps_rule rules.distinct w.distinct c kinds.DuplicateName
        (if nat_lt n rules.instances then Ok ys else Err (kinds.LeftOut left_out.TooMany))
        (if nat_lt n w.instances then Ok ys else Err (kinds.LeftOut left_out.TooMany)) zs i.distinct
        (keeps_test (nat_lt n rules.instances) (nat_lt n w.instances) (kinds.LeftOut left_out.TooMany) ys zs
        (lt_more n rules.instances w.instances i.instances)) (sym (h rules) ∙ e)
