-- Values without bags, place by place; and what a hasher is fed by values of one shape.
use Rattle.std.proofs.Common.{◌≡◌, ◌≢◌, ◌≤◌, ◌+◌, ℕ, suc, Bool, true, false, List, Some, refl, sym, ap, ◌∙◌, subst, arith}
use Rattle.std.specs.Prelude.{◌&&◌}
use Rattle.std.specs.Cmp.{signed_Decides}
use Rattle.std.specs.Hash as fed
use Rattle.std.specs.Hash.FoldHasher as folding
use Rattle.std.specs.declared.hash.FoldHasher.{FoldHasher}
use Rattle.std.proofs.lemmas.Bool.{and_parts}
use Rattle.step_literals.specs.DecimalKeys.{units_of}
use Rattle.step_literals.specs.steps.DecimalKeyLemmas.{key_respects_eq}
use Rattle.step_values.specs.AgreementTests.{value_count}
use Rattle.step_values.specs.Leaves.{Leaf, unset, derived, number, text, bits, element}
use Rattle.step_values.specs.Shapes.{HaveOneShape}
use Rattle.step_values.specs.steps.Slots.{nth}
use Rattle.step_values.specs.Values.{Value, leaf, reference, typed, sequence, bag, Values, none, more, Agree}
use Rattle.step_values.proofs.Walks.{after, after_all, after_at}
use Rattle.row_signatures.specs.steps.ComputedFlat.{Feeds, FeedsEach, FeedsLeaf, IsHash, alike, alike_each, bagless, bagless_each, emptied, each_emptied, marked, shape_test, word_writes}

-- nothing is left out where no bag stands
mutual
  emptied_itself : (v : Value) → bagless v ≡ true → emptied v ≡ v
  emptied_itself (leaf a) h = refl
  emptied_itself (reference y) h = refl
  emptied_itself (typed n v) h = ap (typed n) (emptied_itself v h)
  emptied_itself (sequence vs) h = ap sequence (each_emptied_itself vs h)
  emptied_itself (bag vs) h = absurd (cc)

  each_emptied_itself : (vs : Values) → bagless_each vs ≡ true → each_emptied vs ≡ vs
  each_emptied_itself none h = refl
  each_emptied_itself (more v vs) h =
      let parts = and_parts (bagless v) (bagless_each vs) h in
      λ i. more (emptied_itself v parts.0 i) (each_emptied_itself vs parts.1 i)

pub alike_itself : (vs ws : Values) → bagless_each vs ≡ true → bagless_each ws ≡ true
    → alike_each vs ws ≡ shape_test vs ws
alike_itself vs ws p q = λ i. shape_test (each_emptied_itself vs p i) (each_emptied_itself ws q i)

-- place by place
and_false : (b : Bool) → (b && false) ≡ false
and_false true = refl
and_false false = refl

pub alike_sizes : (vs ws : Values) → value_count vs ≢ value_count ws → alike_each vs ws ≡ false
alike_sizes none none n = absurd (n refl)
alike_sizes none (more w ws) n = refl
alike_sizes (more v vs) none n = refl
alike_sizes (more v vs) (more w ws) n =
    ap (λ b. alike v w && b) (alike_sizes vs ws (λ e. n (ap suc e))) ∙ and_false (alike v w)

module _ (vs ws : Values) where
  alike_at : (i : ℕ) (v w : Value) → nth vs i ≡ Some v → nth ws i ≡ Some w → alike_each (after i vs) (after i ws)
      ≡ (alike v w && alike_each (after (i + 1) vs) (after (i + 1) ws))
  alike_at i v w e k = λ j. alike_each (after_at vs i v e j) (after_at ws i w k j)

  pub alike_stops : (i : ℕ) (v w : Value) → nth vs i ≡ Some v → nth ws i ≡ Some w → alike v w ≡ false
      → alike_each (after i vs) (after i ws) ≡ false
  alike_stops i v w e k h =
      alike_at i v w e k ∙ ap (λ b. b && alike_each (after (i + 1) vs) (after (i + 1) ws)) h

  pub alike_goes_on : (i : ℕ) (v w : Value) → nth vs i ≡ Some v → nth ws i ≡ Some w → alike v w ≡ true
      → alike_each (after i vs) (after i ws) ≡ alike_each (after (i + 1) vs) (after (i + 1) ws)
  alike_goes_on i v w e k h =
      alike_at i v w e k ∙ ap (λ b. b && alike_each (after (i + 1) vs) (after (i + 1) ws)) h

  pub alike_ends : (i : ℕ) → value_count vs ≡ value_count ws → value_count vs ≤ i → alike_each (after i vs) (after i ws) ≡ true
  alike_ends i e l =
      let m : value_count ws ≤ i = omega (arith, e, l) in
      λ j. alike_each (after_all vs i l j) (after_all ws i m j)

-- whether a bag stands there is a part of the shape
abbrev any : ℕ → ℕ → Bool
any y z = true

mutual
  one_bagless : (v w : Value) → Agree any v w → bagless v ≡ bagless w
  one_bagless (leaf a) (leaf b) h = refl
  one_bagless (reference y) (reference z) h = refl
  one_bagless (typed n v) (typed m w) h = one_bagless v w h.1
  one_bagless (sequence vs) (sequence ws) h = same_bagless vs ws h
  one_bagless (bag vs) (bag ws) h = refl
  one_bagless _ _ h = absurd h

  pub same_bagless : (vs ws : Values) → HaveOneShape vs ws → bagless_each vs ≡ bagless_each ws
  same_bagless none none h = refl
  same_bagless (more v vs) (more w ws) h = λ i. one_bagless v w h.0 i && same_bagless vs ws h.1 i
  same_bagless _ _ h = absurd h

same_size : (vs ws : Values) → HaveOneShape vs ws → value_count vs ≡ value_count ws
same_size none none h = refl
same_size (more v vs) (more w ws) h = ap suc (same_size vs ws h.1)
same_size _ _ h = absurd h

-- values of one shape feed a hasher alike
module _ {S : Type 0} (write : S → List ℕ → S) where
  same_leaf : (a : Leaf) (s t u : S) → FeedsLeaf write a s t → FeedsLeaf write a s u → t ≡ u
  same_leaf unset s t u h k = h ∙ sym k
  same_leaf derived s t u h k = h ∙ sym k
  same_leaf (number z) s t u h k =
      let same = (signed_Decides (units_of h.0) (units_of k.0)).1 (h.1 ∙ sym k.1) in
      h.2 ∙ ap (marked write s 2) (key_respects_eq h.0 k.0 same) ∙ sym k.2
  same_leaf (text is) s t u h k = h ∙ sym k
  same_leaf (bits b) s t u h k = h ∙ sym k
  same_leaf (element w) s t u h k = h ∙ sym k

  mutual
    one_feed : (v w : Value) → Agree any v w → (s t u : S) → Feeds write v s t → Feeds write w s u → t ≡ u
    one_feed (leaf a) (leaf b) e s t u h k = same_leaf a s t u h (subst (λ c. FeedsLeaf write c s u) (sym e) k)
    one_feed (reference y) (reference z) e s t u h k = h ∙ sym k
    one_feed (typed n v) (typed m w) e s t u h k =
        one_feed v w e.1 (marked write s 7 (word_writes n)) t u h
        (subst (λ o. Feeds write w (marked write s 7 (word_writes o)) u) (sym e.0) k)
    one_feed (sequence vs) (sequence ws) e s t u h k =
        same_feed vs ws e (marked write s 8 (fed.usize (value_count vs))) t u h
        (subst (λ n. FeedsEach write ws (marked write s 8 (fed.usize n)) u) (sym (same_size vs ws e)) k)
    one_feed (bag vs) (bag ws) e s t u h k = h ∙ sym k
    one_feed _ _ e s t u h k = absurd e

    same_feed : (vs ws : Values) → HaveOneShape vs ws → (s t u : S) → FeedsEach write vs s t → FeedsEach write ws s u
        → t ≡ u
    same_feed none none e s t u h k = sym h ∙ k
    same_feed (more v vs) (more w ws) e s t u h k =
        let first = one_feed v w e.0 s h.0 k.0 h.1 k.1 in
        same_feed vs ws e.1 h.0 t u h.2 (subst (λ m. FeedsEach write ws m u) (sym first) k.2)
    same_feed _ _ e s t u h k = absurd e

  -- what is still to be fed leads to what all of it does
  abbrev pub Left : Values → S → Values → S → Type 0
  Left all start vs s = (t : S) → FeedsEach write vs s t → FeedsEach write all start t

  pub fed_more : (all : Values) (start : S) (i : ℕ) (v : Value) (s m : S) → nth all i ≡ Some v → Feeds write v s m
      → Left all start (after i all) s → Left all start (after (i + 1) all) m
  fed_more all start i v s m at h left t rest =
      left t (subst (λ vs. FeedsEach write vs s t) (sym (after_at all i v at)) (m, h, rest))

  pub fed_all : (all : Values) (start : S) (i : ℕ) (s : S) → value_count all ≤ i → Left all start (after i all) s
      → FeedsEach write all start s
  fed_all all start i s l left = left s (subst (λ vs. FeedsEach write vs s s) (sym (after_all all i l)) refl)

-- values of one shape have one hash
pub same_hash : (start : FoldHasher) (vs ws : Values) (h k : ℕ) → HaveOneShape vs ws → IsHash start vs h
    → IsHash start ws k → h ≡ k
same_hash start vs ws h k e p q =
    p.2 ∙ ap folding.finish (same_feed folding.write vs ws e start p.0 q.0 p.1 q.1) ∙ sym q.2

-- what is left decides whether no bag stands there
pub bagless_from : (vs : Values) (i : ℕ) (v : Value) (b : Bool) → nth vs i ≡ Some v
    → ((b && bagless v) && bagless_each (after (i + 1) vs)) ≡ (b && bagless_each (after i vs))
bagless_from vs i v b at =
    and_assoc b (bagless v) (bagless_each (after (i + 1) vs))
    ∙ ap (λ us. b && bagless_each us) (sym (after_at vs i v at))
  where
    and_assoc : (a c d : Bool) → ((a && c) && d) ≡ (a && (c && d))
    and_assoc true c d = refl
    and_assoc false c d = refl

pub bagless_all : (vs : Values) (i : ℕ) (b : Bool) → value_count vs ≤ i → (b && bagless_each (after i vs)) ≡ b
bagless_all vs i b l = ap (λ us. b && bagless_each us) (after_all vs i l) ∙ and_true b
  where
    and_true : (a : Bool) → (a && true) ≡ a
    and_true true = refl
    and_true false = refl
