-- How many nodes lists of values have, and where their references lead.
use Rattle.std.proofs.Common.{◌≡◌, ◌+◌, ℕ, suc, List, [], ◌∷◌, ◌++◌, take, drop, refl, sym, ◌∙◌, ap, arith, append_assoc}
use Rattle.std.specs.List.{sum_by}
use Rattle.std.proofs.lemmas.List.{take-append-drop}
use Rattle.std.proofs.lemmas.List.Sums.{sum_by-append, sum_by-cons}
use Rattle.step_values.specs.declared.cell.Cell.{Cell}
use Rattle.step_values.specs.steps.NodeCounts.{nodes_of, nodes_in}
use Rattle.step_values.specs.steps.Targets.{target_of, targets_of, LeadTo}
use Rattle.step_values.specs.Values.{Value}
use Rattle.step_values.specs.Views.{all_of}

-- values of a list
pub nodes_all : (vs : List Value) → nodes_in (all_of vs) ≡ sum_by nodes_of vs
nodes_all [] = refl
nodes_all (v ∷ vs) =
    let rest = nodes_all vs in let all = sum_by-cons nodes_of v vs in omega (arith, rest, all)

-- a single value
pub nodes_one : (v : Value) (vs : List Value) → v ∷ [] ≡ vs → suc (nodes_of v) ≡ suc (sum_by nodes_of vs)
nodes_one v vs e =
    let alone = sum_by-cons nodes_of v [] in
    let none : sum_by nodes_of [] ≡ 0 = refl in
    let same : sum_by nodes_of (v ∷ []) ≡ sum_by nodes_of vs = ap (sum_by nodes_of) e in
    omega (arith, alone, none, same)

-- two parts of a list
pub sum_cut : {A : Type 0} (f : A → ℕ) (n : ℕ) (xs : List A)
    → sum_by f (take n xs) + sum_by f (drop n xs) ≡ sum_by f xs
sum_cut f n xs = sym (sum_by-append f (take n xs) (drop n xs)) ∙ ap (sum_by f) (take-append-drop n xs)

targets_join : (cs ds : List Cell) → targets_of (cs ++ ds) ≡ targets_of cs ++ targets_of ds
targets_join [] ds = refl
targets_join (c ∷ cs) ds = ap (λ ts. target_of c ++ ts) (targets_join cs ds)
    ∙ sym (append_assoc (target_of c) (targets_of cs) (targets_of ds))

module _ (names : List ℕ) where
  pub join : (ts us : List (ℕ × ℕ)) → LeadTo names ts → LeadTo names us → LeadTo names (ts ++ us)
  join [] us h g = g
  join (t ∷ ts) us h g = (h.0, join ts us h.1 g)

  pub split : (ts us : List (ℕ × ℕ)) → LeadTo names (ts ++ us) → LeadTo names ts × LeadTo names us
  split [] us h = (tt, h)
  split (t ∷ ts) us h = let rest = split ts us h.1 in ((h.0, rest.0), rest.1)

  pub leads_join : (cs ds : List Cell) → LeadTo names (targets_of cs) → LeadTo names (targets_of ds)
      → LeadTo names (targets_of (cs ++ ds))
  leads_join cs ds h g = rw (targets_join cs ds) (join (targets_of cs) (targets_of ds) h g)

  pub leads_split : (cs ds : List Cell) → LeadTo names (targets_of (cs ++ ds))
      → LeadTo names (targets_of cs) × LeadTo names (targets_of ds)
  leads_split cs ds h = split (targets_of cs) (targets_of ds) (rw (← targets_join cs ds) h)
