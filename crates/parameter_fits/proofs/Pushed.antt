-- What is pending behind what was pushed.
use Rattle.std.proofs.Common.{◌≡◌, ◌<◌, ◌≤◌, ℕ, zero, suc, ◌+◌, true, false, List, [], ◌∷◌, ◌++◌, Option, Some, None, Result, Ok, Err, cond, subst, length, take, drop, slice_get, refl, sym, ◌∙◌, ap, arith, add-one, append_assoc, length-append}
use Rattle.std.specs.Prelude.{IfOk, MatchResult}
use Rattle.std.specs.Option.{option_map, unwrap_or}
use Rattle.step_structures.specs.Words.{Word}
use Rattle.step_structures.specs.Trees.{Tree, leaf, group}
use Rattle.step_structures.specs.Trees.{typed as tree_typed}
use Rattle.step_literals.specs.Words.{upper}
use Rattle.step_records.specs.Cells.{all_of}
use Rattle.step_values.specs.steps.Building.{Building}
use Rattle.step_values.specs.Values.{Value, typed, sequence, bag, Values, none, more}
use Rattle.step_values.specs.Views as views
use Rattle.express_syntax.specs.Schemas.{Schema}
use Rattle.conformance.specs.Bases.{Domain, IsDomain, Base, integer, number, boolean, logical, string, binary, enumeration, entity, select, aggregate}
use Rattle.conformance.specs.ParameterFits.{gathered, element, inner, word_value, value_as, values_as, base_or_this}
use Rattle.parameter_fits.specs.steps.Gathering.{makes_bag}
use Rattle.parameter_fits.specs.steps.References.{RefersWithin, ReferWithin}
use Rattle.parameter_fits.specs.steps.Pushing.{listed, Pushes, PushesEach}

front_of : (xs ys : List Value) → take (length xs) (xs ++ ys) ≡ xs
front_of [] ys = refl
front_of (x ∷ xs) ys = ap (λ zs. x ∷ zs) (front_of xs ys)

back_of : (xs ys : List Value) → drop (length xs) (xs ++ ys) ≡ ys
back_of [] ys = refl
back_of (x ∷ xs) ys = back_of xs ys

all_listed : (vs : Values) → views.all_of (listed vs) ≡ vs
all_listed none = refl
all_listed (more v vs) = ap (more v) (all_listed vs)

-- a list is closed

pub reached : (old mid : Building) (vs : Values) (mark : ℕ) → PushesEach old mid vs → mark ≡ length old.pending
    → mark ≤ length mid.pending
reached old mid vs mark p m =
    let long = ap (λ (b : Building). length b.pending) p ∙ length-append old.pending (listed vs) in
    omega (arith, long, m)

pub closed : (make : Values → Value) (old mid new : Building) (vs : Values) (mark : ℕ) → PushesEach old mid vs
    → mark ≡ length old.pending
    → new ≡ record mid { pending = take mark mid.pending ++ make (views.all_of (drop mark mid.pending)) ∷ [] }
    → Pushes old new (make vs)
closed make old mid new vs mark p m e =
    e ∙ ap (λ (b : Building). record b {
      pending = take mark b.pending
          ++ make (views.all_of (drop mark b.pending)) ∷ [];
    }) p
    ∙ ap (λ k. record old {
      pending = take k (old.pending ++ listed vs)
          ++ make (views.all_of (drop k (old.pending ++ listed vs))) ∷ [];
    }) m
    ∙ ap (λ ys. record old {
      pending = ys
          ++ make (views.all_of (drop (length old.pending) (old.pending ++ listed vs))) ∷ [];
    }) (front_of old.pending (listed vs))
    ∙ ap (λ ys. record old { pending = old.pending ++ make (views.all_of ys) ∷ [] }) (back_of old.pending (listed vs))
    ∙ ap (λ ws. record old { pending = old.pending ++ make ws ∷ [] }) (all_listed vs)

pub bag_gathered : (b : Base) (vs : Values) → makes_bag b ≡ true → bag vs ≡ gathered b vs
bag_gathered (aggregate a) vs e = ap (λ t. cond t (bag vs) (sequence vs)) (sym e)
bag_gathered integer vs e = absurd (cc)
bag_gathered number vs e = absurd (cc)
bag_gathered boolean vs e = absurd (cc)
bag_gathered logical vs e = absurd (cc)
bag_gathered (string w) vs e = absurd (cc)
bag_gathered (binary w) vs e = absurd (cc)
bag_gathered (enumeration is) vs e = absurd (cc)
bag_gathered (entity n) vs e = absurd (cc)
bag_gathered (select n) vs e = absurd (cc)

pub sequence_gathered : (b : Base) (vs : Values) → makes_bag b ≡ false → sequence vs ≡ gathered b vs
sequence_gathered (aggregate a) vs e = ap (λ t. cond t (bag vs) (sequence vs)) (sym e)
sequence_gathered integer vs e = refl
sequence_gathered number vs e = refl
sequence_gathered boolean vs e = refl
sequence_gathered logical vs e = refl
sequence_gathered (string w) vs e = refl
sequence_gathered (binary w) vs e = refl
sequence_gathered (enumeration is) vs e = refl
sequence_gathered (entity n) vs e = refl
sequence_gathered (select n) vs e = refl

-- a list is closed, in terms of the call that closes it
pub list_closed : {A E : Type 0} (s : Schema) (make : Values → Value) (old mid new : Building) (mark : ℕ)
    → mark ≡ length old.pending → (b : Base) (xs : List Tree) → ((vs : Values) → make vs ≡ gathered b vs)
    → (d : Domain) × IsDomain s d
    → ((d : Domain) → IsDomain s d → PushesEach old mid (values_as s d (element s d b) (all_of xs))) → (r : Result A E)
    → MatchResult r (λ _. new ≡ record mid {
      pending = take mark mid.pending
          ++ make (views.all_of (drop mark mid.pending)) ∷ [];
    })
    (λ _. new.names ≡ mid.names)
    → MatchResult r (λ _. (d : Domain) → IsDomain s d → Pushes old new (value_as s d b (group (all_of xs))))
    (λ _. new.names ≡ old.names)
list_closed s make old mid new mark m b xs gather some pushed (Ok u) e = λ d h.
    closed make old mid new (values_as s d (element s d b) (all_of xs)) mark (pushed d h) m e
    ∙ ap (λ v. record old { pending = old.pending ++ v ∷ [] }) (gather (values_as s d (element s d b) (all_of xs)))
list_closed s make old mid new mark m b xs gather some pushed (Err u) e =
    e ∙ ap (λ (c : Building). c.names) (pushed some.0 some.1)

-- a typed value is closed

pub some_pending : (old mid : Building) (v : Value) → Pushes old mid v → 0 < length mid.pending
some_pending old mid v p =
    let long = ap (λ (b : Building). length b.pending) p ∙ length-append old.pending (v ∷ []) in
    omega (arith, long)

pub typed_over : (old mid new : Building) (v : Value) (word : List ℕ) → Pushes old mid v
    → new ≡ record mid { pending = old.pending ++ typed word v ∷ [] } → Pushes old new (typed word v)
typed_over old mid new v word p e =
    e ∙ ap (λ (b : Building). record b { pending = old.pending ++ typed word v ∷ [] }) p

last_pending : (old mid : Building) (v : Value) → Pushes old mid v → mid.pending ≡ old.pending ++ v ∷ []
last_pending old mid v p = ap (λ (b : Building). b.pending) p

pub typed_closed : {A E : Type 0} (s : Schema) (old mid new : Building) (b inside : Base) (word : List ℕ) (x : Tree)
    → (d : Domain) × IsDomain s d
    → ((d : Domain) → IsDomain s d → inside ≡ base_or_this s d b (inner s d b (upper word)))
    → ((d : Domain) → IsDomain s d → Pushes old mid (value_as s d inside x)) → (r : Result A E)
    → new.names ≡ mid.names
    → ((front : List Value) (v : Value) → mid.pending ≡ front ++ v ∷ []
    → IfOk r (λ _. new ≡ record mid { pending = front ++ typed (upper word) v ∷ [] }))
    → MatchResult r (λ _. (d : Domain) → IsDomain s d → Pushes old new (value_as s d b (tree_typed word x)))
    (λ _. new.names ≡ old.names)
typed_closed s old mid new b inside word x some says pushed (Ok u) names e = λ d h.
    let v = value_as s d inside x in
    typed_over old mid new v (upper word) (pushed d h) (e old.pending v (last_pending old mid v (pushed d h)))
    ∙ ap (λ z. record old { pending = old.pending ++ typed (upper word) (value_as s d z x) ∷ [] }) (says d h)
typed_closed s old mid new b inside word x some says pushed (Err u) names e =
    names ∙ ap (λ (c : Building). c.names) (pushed some.0 some.1)

-- what stands inside, or what it stands in
pub or_itself : {A : Type 0} (s : Schema) (d : Domain) (see : A → Base) (o : Option A) (b : A)
    → see (unwrap_or o b) ≡ base_or_this s d (see b) (option_map see o)
or_itself s d see None b = refl
or_itself s d see (Some a) b = refl

-- one more of the parameters of a list

pub refers_at : (find : ℕ → Option ℕ) (xs : List Tree) (i : ℕ) (x : Tree) → slice_get xs i ≡ Some x
    → ReferWithin find (all_of xs) → RefersWithin find x
refers_at find [] i x e r = absurd (cc)
refers_at find (y ∷ xs) zero x e r = let same : y ≡ x = cc in subst (RefersWithin find) same r.0
refers_at find (y ∷ xs) (suc i) x e r = refers_at find xs i x e r.1

module _ (s : Schema) (d : Domain) (b : Base) where
  abbrev values : List Tree → List Value
  values xs = listed (values_as s d b (all_of xs))

  taken : (xs : List Tree) (i : ℕ) (x : Tree) → slice_get xs i ≡ Some x
      → values (take (suc i) xs) ≡ values (take i xs) ++ value_as s d b x ∷ []
  taken [] i x e = absurd (cc)
  taken (y ∷ xs) zero x e = let same : y ≡ x = cc in ap (λ z. value_as s d b z ∷ []) same
  taken (y ∷ xs) (suc i) x e = ap (λ vs. value_as s d b y ∷ vs) (taken xs i x e)

  pub pushed_next : (old mid new : Building) (xs : List Tree) (i : ℕ) (x : Tree) → slice_get xs i ≡ Some x
      → PushesEach old mid (values_as s d b (all_of (take i xs))) → Pushes mid new (value_as s d b x)
      → PushesEach old new (values_as s d b (all_of (take (i + 1) xs)))
  pushed_next old mid new xs i x at p q =
      q ∙ ap (λ (c : Building). record c { pending = c.pending ++ value_as s d b x ∷ [] }) p
      ∙ ap (λ vs. record old { pending = vs })
      (append_assoc old.pending (values (take i xs)) (value_as s d b x ∷ [])
      ∙ ap (λ vs. old.pending ++ vs) (sym (taken xs i x at) ∙ ap (λ n. values (take n xs)) (sym (add-one i))))

-- what a data type asks, that is looked up
pub as_asked : {A E : Type 0} (s : Schema) (old new : Building) (b : Base) (asked : Domain → Base) (x : Tree)
    → ((d : Domain) → IsDomain s d → b ≡ asked d) → (r : Result A E)
    → MatchResult r (λ _. (d : Domain) → IsDomain s d → Pushes old new (value_as s d b x))
    (λ _. new.names ≡ old.names)
    → MatchResult r (λ _. (d : Domain) → IsDomain s d → Pushes old new (value_as s d (asked d) x))
    (λ _. new.names ≡ old.names)
as_asked s old new b asked x says (Ok u) p = λ d h.
    p d h ∙ ap (λ c. record old { pending = old.pending ++ value_as s d c x ∷ [] }) (says d h)
as_asked s old new b asked x says (Err u) p = p

-- what a data type asks doesn't matter to a token
pub whatever_asked : {A E : Type 0} (s : Schema) (old new : Building) (asked : Domain → Base) (w : Word) (x : Tree)
    → leaf w ≡ x → (r : Result A E) → MatchResult r (λ _. Pushes old new (word_value w)) (λ _. new.names ≡ old.names)
    → MatchResult r (λ _. (d : Domain) → IsDomain s d → Pushes old new (value_as s d (asked d) x))
    (λ _. new.names ≡ old.names)
whatever_asked s old new asked w x is (Ok u) p = λ d h.
    p ∙ ap (λ y. record old { pending = old.pending ++ value_as s d (asked d) y ∷ [] }) is
whatever_asked s old new asked w x is (Err u) p = p
