-- The kind of fault that the table gives is the kind that is due.
use Rattle.std.proofs.Common.{◌≡◌, ◌+◌, List, [], ◌∷◌, ◌++◌, map, Ok, Err, refl, sym, ap, ◌∙◌, subst, arith, append_assoc}
use Rattle.parsing.specs.Tables.{lookaheads}
use Rattle.parsing.specs.Languages as languages
use Rattle.parsing.proofs.Lists.{lookaheads_append}
use Rattle.parsing.proofs.Running.{Reaches, reaches_one, reaches_join}
use Rattle.parsing.proofs.Faults.{front_from, not_front}
use Rattle.express_syntax.specs.declared.keyword.Keyword.TheVariants as keywords
use Rattle.express_syntax.specs.Words.{Word, keyword}
use Rattle.express_syntax.specs.Grammar.{depth_limit}
use Rattle.express_syntax.specs.declared.fault.FaultKind.{FaultKind}
use Rattle.express_syntax.specs.declared.fault.FaultKind.TheVariants as fault_kinds
use Rattle.express_syntax.specs.declared.fault.LeftOut.{LeftOut}
use Rattle.express_syntax.specs.declared.fault.LeftOut.TheVariants as left_out
use Rattle.express_syntax.specs.WrittenSchemas.{words_of_schema}
use Rattle.express_syntax.specs.Texts.{Lookahead, token, flawed, end_of_text, LocatedToken, IsViablePrefix, IsInSkipped, IsLeftOut, FaultApplies, IsKind}
use Rattle.express_syntax.specs.steps.Predict.{Symbol, SkippedName, SkippedEnd, Routine, Until, next, schema_symbols}
use Rattle.express_syntax.specs.steps.Steps.{table, IsSchema}
use Rattle.express_syntax.proofs.Prefixes.{front_of, of_front}
use Rattle.express_syntax.proofs.Complete.{IsAny}
use Rattle.express_syntax.proofs.Exact.{exact}
use Rattle.express_syntax.proofs.Refusals.{Place, in_schema, in_skipped, Leaves, Told}
use Rattle.express_syntax.proofs.Reasons.{IsSkipping, place_of, skipping_place, why, leads_shallow, leads_deeper}
use Rattle.express_syntax.proofs.InSkipped.{skipping_inside, inside_skipping}

place_skipping : (y : Symbol) → place_of y ≡ in_skipped → IsSkipping y
place_skipping SkippedName e = tt
place_skipping SkippedEnd e = tt
place_skipping (Routine n) e = tt
place_skipping (Until end) e = tt
place_skipping y e = absurd cc

-- the end of a text is its schema's last lookahead
pub nothing_more : (a : List Lookahead) (s : Lookahead) (rest : List Lookahead) → a ++ s ∷ rest ≡ [] → ⊥
nothing_more [] s rest e = cc
nothing_more (t ∷ a) s rest e = cc

last_over : (a rest : List Lookahead) (ws : List Word) → a ++ end_of_text ∷ rest ≡ map token ws ++ end_of_text ∷ []
    → rest ≡ []
last_over [] rest [] e = cc
last_over [] rest (w ∷ ws) e = absurd cc
last_over (s ∷ a) rest [] e = absurd (nothing_more a end_of_text rest (let t : a ++ end_of_text ∷ rest ≡ [] = cc in t))
last_over (s ∷ a) rest (w ∷ ws) e = last_over a rest ws (let t : a ++ end_of_text ∷ rest ≡ map token ws ++ end_of_text
    ∷ [] = cc in t)

pub one_more : (s : List LocatedToken) (at : LocatedToken) → lookaheads (s ++ at ∷ []) ≡ lookaheads s ++ at.lookahead
    ∷ []
one_more s at = lookaheads_append s (at ∷ [])

pub ended_once : (before : List LocatedToken) (f : languages.IsViablePrefix (IsSchema depth_limit) (lookaheads before
    ++ end_of_text ∷ [])) → IsSchema depth_limit (lookaheads before ++ end_of_text ∷ [])
ended_once before f =
    let e = sym (append_assoc (lookaheads before) (end_of_text ∷ []) f.0) in
    let none = last_over (lookaheads before) f.0 (words_of_schema f.1.0) (e ∙ f.1.2) in
    (f.1.0, f.1.1, ap (λ l. lookaheads before ++ end_of_text ∷ l) (sym none) ∙ e ∙ f.1.2)

-- which part a word leaves out
part_of : Lookahead → LeftOut
part_of (token (keyword keywords.Use)) = left_out.Use
part_of (token (keyword keywords.Reference)) = left_out.Reference
part_of (token (keyword keywords.Renamed)) = left_out.Renamed
part_of (token (keyword keywords.Extensible)) = left_out.Extensible
part_of (token (keyword keywords.BasedOn)) = left_out.BasedOn
part_of (token (keyword keywords.GenericEntity)) = left_out.GenericEntity
part_of (token (keyword keywords.Schema)) = left_out.SecondSchema
part_of s = left_out.TooLarge

part_is : (p : Place) (s : Lookahead) (part : LeftOut) → Leaves p s part → part_of s ≡ part
unfolding part_of
part_is in_skipped s part h = absurd h
part_is in_schema s left_out.Use h = ap part_of h
part_is in_schema s left_out.Reference h = ap part_of h
part_is in_schema s left_out.Renamed h = ap part_of h
part_is in_schema s left_out.Extensible h = ap part_of h
part_is in_schema s left_out.BasedOn h = ap part_of h
part_is in_schema s left_out.GenericEntity h = ap part_of h
part_is in_schema s left_out.SecondSchema h = ap part_of h
part_is in_schema s left_out.TooLarge h = absurd h

one_part : (p : Place) (s : Lookahead) (part other : LeftOut) → Leaves p s part → Leaves p s other → part ≡ other
one_part p s part other h g = sym (part_is p s part h) ∙ part_is p s other g

not_flawed : (p : Place) (part : LeftOut) → Leaves p flawed part → ⊥
not_flawed in_skipped part h = h
not_flawed in_schema left_out.Use h = cc
not_flawed in_schema left_out.Reference h = cc
not_flawed in_schema left_out.Renamed h = cc
not_flawed in_schema left_out.Extensible h = cc
not_flawed in_schema left_out.BasedOn h = cc
not_flawed in_schema left_out.GenericEntity h = cc
not_flawed in_schema left_out.SecondSchema h = cc
not_flawed in_schema left_out.TooLarge h = h

-- what stands first on the stack behind some tokens, and another token
module _ (before : List LocatedToken) (at : LocatedToken) (top : Symbol) (others : List Symbol)
    (reached : Reaches table schema_symbols before (top ∷ others)) where
  abbrev Deeper : Type 0
  Deeper = Reaches (next (depth_limit + 1)) schema_symbols before (top ∷ others)

  deeper : Deeper
  deeper = leads_deeper depth_limit (omega arith) (lookaheads before) schema_symbols (top ∷ others)
      (tt, (tt, (tt, (tt, (tt, tt))))) reached

  reason : (k : FaultKind) → table top at.lookahead ≡ Err k → Told (place_of top) (λ l. next l top at.lookahead)
      depth_limit at.lookahead k
  reason k e = why depth_limit (omega arith) top (leads_shallow depth_limit (omega arith) (lookaheads before)
      schema_symbols (top ∷ others) (tt, (tt, (tt, (tt, (tt, tt))))) reached).0 at.lookahead k e

  outside : (p : Place) → place_of top ≡ p → (p ≡ in_skipped → ⊥) → IsInSkipped (lookaheads before) → ⊥
  outside p e f i = f (sym e ∙ skipping_place top (inside_skipping before top others i reached))

  inside_it : place_of top ≡ in_skipped → IsInSkipped (lookaheads before)
  inside_it e = skipping_inside before top others reached (place_skipping top e)

  -- what is left out there is left out by the definition
  left_due : (p : Place) → place_of top ≡ p → (part : LeftOut) → Leaves p at.lookahead part
      → IsLeftOut (lookaheads before) at.lookahead part
  left_due in_skipped e part h = absurd h
  left_due in_schema e left_out.Use h = (h, outside in_schema e (λ d. cc))
  left_due in_schema e left_out.Reference h = (h, outside in_schema e (λ d. cc))
  left_due in_schema e left_out.Renamed h = (h, outside in_schema e (λ d. cc))
  left_due in_schema e left_out.Extensible h = (h, outside in_schema e (λ d. cc))
  left_due in_schema e left_out.BasedOn h = (h, outside in_schema e (λ d. cc))
  left_due in_schema e left_out.GenericEntity h = (h, outside in_schema e (λ d. cc))
  left_due in_schema e left_out.SecondSchema h = (h, outside in_schema e (λ d. cc))
  left_due in_schema e left_out.TooLarge h = h

  -- what is left out by the definition is left out here
  left_stands : (p : Place) → place_of top ≡ p → (part : LeftOut) → IsLeftOut (lookaheads before) at.lookahead part
      → Leaves p at.lookahead part
  left_stands in_skipped e left_out.Use h = h.1 (inside_it e)
  left_stands in_skipped e left_out.Reference h = h.1 (inside_it e)
  left_stands in_skipped e left_out.Renamed h = h.1 (inside_it e)
  left_stands in_skipped e left_out.Extensible h = h.1 (inside_it e)
  left_stands in_skipped e left_out.BasedOn h = h.1 (inside_it e)
  left_stands in_skipped e left_out.GenericEntity h = h.1 (inside_it e)
  left_stands in_skipped e left_out.SecondSchema h = h.1 (inside_it e)
  left_stands in_skipped e left_out.TooLarge h = h
  left_stands in_schema e left_out.Use h = h.0
  left_stands in_schema e left_out.Reference h = h.0
  left_stands in_schema e left_out.Renamed h = h.0
  left_stands in_schema e left_out.Extensible h = h.0
  left_stands in_schema e left_out.BasedOn h = h.0
  left_stands in_schema e left_out.GenericEntity h = h.0
  left_stands in_schema e left_out.SecondSchema h = h.0
  left_stands in_schema e left_out.TooLarge h = h

  -- with one bracket more it would stand
  front_deeper : (zs : List Symbol) → next (depth_limit + 1) top at.lookahead ≡ Ok zs → IsViablePrefix (depth_limit + 1)
      (lookaheads before ++ at.lookahead ∷ [])
  front_deeper zs e =
      let wide = next (depth_limit + 1) in
      let f = front_from wide IsAny schema_symbols (IsSchema (depth_limit + 1)) (exact (depth_limit + 1) (omega arith))
      (before ++ at ∷ []) (zs ++ others) (reaches_join wide before (at ∷ []) schema_symbols (top ∷ others)
      (zs ++ others) deeper (reaches_one wide top zs others at e)) in
      subst (IsViablePrefix (depth_limit + 1)) (one_more before at)
      (front_of (depth_limit + 1) (lookaheads (before ++ at ∷ [])) f)

  -- with one more bracket the token isn't allowed either
  no_front_deeper : (k : FaultKind) → next (depth_limit + 1) top at.lookahead ≡ Err k → IsViablePrefix (depth_limit + 1)
      (lookaheads before ++ at.lookahead ∷ []) → ⊥
  no_front_deeper k e f =
      not_front (next (depth_limit + 1)) IsAny schema_symbols (IsSchema (depth_limit + 1))
      (exact (depth_limit + 1) (omega arith)) before at top others k deeper e
      (of_front (depth_limit + 1) (lookaheads (before ++ at ∷ [])) (subst (IsViablePrefix (depth_limit + 1))
      (sym (one_more before at)) f))

  -- the table's kind is due
  pub is_due : (k : FaultKind) → table top at.lookahead ≡ Err k → FaultApplies (lookaheads before) at.lookahead k
  is_due fault_kinds.BadToken e = (reason fault_kinds.BadToken e).0
  is_due (fault_kinds.LeftOut part) e = left_due (place_of top) refl part (reason (fault_kinds.LeftOut part) e).0
  is_due fault_kinds.TooDeep e = let r = reason fault_kinds.TooDeep e in front_deeper r.1 r.2
  is_due fault_kinds.Expected e = tt

  -- a part that is left out
  part_due : (k : FaultKind) → Told (place_of top) (λ l. next l top at.lookahead) depth_limit at.lookahead k
      → (part : LeftOut) → Leaves (place_of top) at.lookahead part → k ≡ fault_kinds.LeftOut part
  part_due fault_kinds.BadToken t part h = let P : Lookahead → Type 0 = λ s. Leaves (place_of top) s part in
      absurd (not_flawed (place_of top) part (subst P t.0 h))
  part_due (fault_kinds.LeftOut other) t part h = ap (λ p. fault_kinds.LeftOut p)
      (one_part (place_of top) at.lookahead other part t.0 h)
  part_due fault_kinds.TooDeep t part h = absurd (t.0.1 part h)
  part_due fault_kinds.Expected t part h = absurd (t.0.1 part h)

  bad_due : (k : FaultKind) → Told (place_of top) (λ l. next l top at.lookahead) depth_limit at.lookahead k
      → at.lookahead ≡ flawed → k ≡ fault_kinds.BadToken
  bad_due fault_kinds.BadToken t h = refl
  bad_due (fault_kinds.LeftOut part) t h = let P : Lookahead → Type 0 = λ s. Leaves (place_of top) s part in
      absurd (not_flawed (place_of top) part (subst P h t.0))
  bad_due fault_kinds.TooDeep t h = absurd (t.0.0 h)
  bad_due fault_kinds.Expected t h = absurd (t.0.0 h)

  deep_due : (k : FaultKind) → Told (place_of top) (λ l. next l top at.lookahead) depth_limit at.lookahead k
      → IsViablePrefix (depth_limit + 1) (lookaheads before ++ at.lookahead ∷ []) → k ≡ fault_kinds.TooDeep
  deep_due fault_kinds.BadToken t h = absurd (no_front_deeper fault_kinds.BadToken t.1 h)
  deep_due (fault_kinds.LeftOut part) t h = absurd (no_front_deeper (fault_kinds.LeftOut part) t.1 h)
  deep_due fault_kinds.TooDeep t h = refl
  deep_due fault_kinds.Expected t h = absurd (no_front_deeper fault_kinds.Expected t.1 h)

  -- no other kind of fault applies, except that another token is expected
  pub only_due : (k : FaultKind) → table top at.lookahead ≡ Err k → (other : FaultKind)
      → (other ≡ fault_kinds.Expected → ⊥) → FaultApplies (lookaheads before) at.lookahead other → k ≡ other
  only_due k e fault_kinds.BadToken n h = bad_due k (reason k e) h
  only_due k e (fault_kinds.LeftOut part) n h = part_due k (reason k e) part (left_stands (place_of top) refl part h)
  only_due k e fault_kinds.TooDeep n h = deep_due k (reason k e) h
  only_due k e fault_kinds.Expected n h = absurd (n refl)

  -- the table's kind is the fault's
  pub data_type_of : (k : FaultKind) → table top at.lookahead ≡ Err k → IsKind (lookaheads before) at.lookahead k
  data_type_of fault_kinds.BadToken e = is_due fault_kinds.BadToken e
  data_type_of (fault_kinds.LeftOut part) e = is_due (fault_kinds.LeftOut part) e
  data_type_of fault_kinds.TooDeep e = is_due fault_kinds.TooDeep e
  data_type_of fault_kinds.Expected e = λ other n h. n (sym (only_due fault_kinds.Expected e other n h))

  -- no kind other than the table's is the fault's
  pub kind_is : (k other : FaultKind) → table top at.lookahead ≡ Err k → IsKind (lookaheads before) at.lookahead other
      → k ≡ other
  kind_is k fault_kinds.BadToken e h = only_due k e fault_kinds.BadToken (λ d. cc) h
  kind_is k (fault_kinds.LeftOut part) e h = only_due k e (fault_kinds.LeftOut part) (λ d. cc) h
  kind_is k fault_kinds.TooDeep e h = only_due k e fault_kinds.TooDeep (λ d. cc) h
  kind_is fault_kinds.Expected fault_kinds.Expected e h = refl
  kind_is fault_kinds.BadToken fault_kinds.Expected e h =
      absurd (h fault_kinds.BadToken (λ d. cc) (is_due fault_kinds.BadToken e))
  kind_is (fault_kinds.LeftOut part) fault_kinds.Expected e h =
      absurd (h (fault_kinds.LeftOut part) (λ d. cc) (is_due (fault_kinds.LeftOut part) e))
  kind_is fault_kinds.TooDeep fault_kinds.Expected e h =
      absurd (h fault_kinds.TooDeep (λ d. cc) (is_due fault_kinds.TooDeep e))
