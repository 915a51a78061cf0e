-- Agreement by shapes and references.
use Rattle.std.proofs.Common.{◌≡◌, ℕ, Bool, true, List, [], ◌∷◌, ◌++◌, refl, length, arith, length-append}
use Rattle.std.specs.List.{AllZip}
use Rattle.step_values.specs.Values.{Value, leaf, reference, typed, sequence, bag, Values, none, more, is_crowd, Agree, AgreeEach}
use Rattle.step_values.specs.Shapes.{outside, outside_each, AgreementIsByShapes}
use Rattle.step_values.proofs.Crowds.{bags_alike, counted, shaped, unshaped}

abbrev any : ℕ → ℕ → Bool
any y z = true

abbrev Passes : (ℕ → ℕ → Bool) → ℕ → ℕ → Type 0
Passes test y z = test y z ≡ true

-- lists one behind the other, of which the first ones are as long
zip_join : (R : ℕ → ℕ → Type 0) (es bs cs ds : List ℕ) → AllZip R es bs → AllZip R cs ds → AllZip R (es ++ cs) (bs ++ ds)
zip_join R [] [] cs ds h k = k
zip_join R [] (b ∷ bs) cs ds h k = absurd h
zip_join R (a ∷ es) [] cs ds h k = absurd h
zip_join R (a ∷ es) (b ∷ bs) cs ds h k = (h.0, zip_join R es bs cs ds h.1 k)

zip_part : (R : ℕ → ℕ → Type 0) (es bs cs ds : List ℕ) → length es ≡ length bs → AllZip R (es ++ cs) (bs ++ ds)
    → AllZip R es bs × AllZip R cs ds
zip_part R [] [] cs ds e h = (tt, h)
zip_part R [] (b ∷ bs) cs ds e h = absurd (omega arith)
zip_part R (a ∷ es) [] cs ds e h = absurd (omega arith)
zip_part R (a ∷ es) (b ∷ bs) cs ds e h = let rest = zip_part R es bs cs ds (omega arith) h.1 in ((h.0, rest.0), rest.1)

-- what agrees has as many references outside bags
mutual
  pub same_count : (test : ℕ → ℕ → Bool) (v w : Value) → Agree test v w → length (outside v) ≡ length (outside w)
  same_count test (leaf a) (leaf b) h = refl
  same_count test (reference y) (reference z) h = refl
  same_count test (typed n v) (typed m w) h = same_count test v w h.1
  same_count test (sequence vs) (sequence ws) h = same_counts test vs ws h
  same_count test (bag vs) (bag ws) h = counted _ (is_crowd vs) (is_crowd ws) (outside_each vs) (outside_each ws)
      (bags_alike test vs ws h) h (λ s. same_counts test vs ws s)
  same_count test _ _ h = absurd h

  pub same_counts : (test : ℕ → ℕ → Bool) (vs ws : Values) → AgreeEach test vs ws
      → length (outside_each vs) ≡ length (outside_each ws)
  same_counts test none none h = refl
  same_counts test (more v vs) (more w ws) h =
      let one = same_count test v w h.0 in
      let rest = same_counts test vs ws h.1 in
      let a = length-append (outside v) (outside_each vs) in
      let b = length-append (outside w) (outside_each ws) in
      omega arith
  same_counts test _ _ h = absurd h

mutual
  to_shape : (test : ℕ → ℕ → Bool) (v w : Value) → Agree test v w → Agree any v w × AllZip (Passes test) (outside v) (outside w)
  to_shape test (leaf a) (leaf b) h = (h, tt)
  to_shape test (reference y) (reference z) h = (refl, (h, tt))
  to_shape test (typed n v) (typed m w) h = let rest = to_shape test v w h.1 in ((h.0, rest.0), rest.1)
  to_shape test (sequence vs) (sequence ws) h = to_shapes test vs ws h
  to_shape test (bag vs) (bag ws) h = shaped (Passes test) _ (is_crowd vs) (is_crowd ws) (outside_each vs)
      (outside_each ws) (bags_alike test vs ws h) h (λ s. to_shapes test vs ws s)
  to_shape test _ _ h = absurd h

  to_shapes : (test : ℕ → ℕ → Bool) (vs ws : Values) → AgreeEach test vs ws
      → AgreeEach any vs ws × AllZip (Passes test) (outside_each vs) (outside_each ws)
  to_shapes test none none h = (tt, tt)
  to_shapes test (more v vs) (more w ws) h =
      let one = to_shape test v w h.0 in
      let rest = to_shapes test vs ws h.1 in
      ((one.0, rest.0), zip_join (Passes test) (outside v) (outside w) (outside_each vs) (outside_each ws) one.1 rest.1)
  to_shapes test _ _ h = absurd h

mutual
  from_shape : (test : ℕ → ℕ → Bool) (v w : Value) → Agree any v w → AllZip (Passes test) (outside v) (outside w)
      → Agree test v w
  from_shape test (leaf a) (leaf b) h k = h
  from_shape test (reference y) (reference z) h k = k.0
  from_shape test (typed n v) (typed m w) h k = (h.0, from_shape test v w h.1 k)
  from_shape test (sequence vs) (sequence ws) h k = from_shapes test vs ws h k
  from_shape test (bag vs) (bag ws) h k = unshaped (Passes test) _ (is_crowd vs) (is_crowd ws) (outside_each vs)
      (outside_each ws) (bags_alike any vs ws h) h k (λ s z. from_shapes test vs ws s z)
  from_shape test _ _ h k = absurd h

  from_shapes : (test : ℕ → ℕ → Bool) (vs ws : Values) → AgreeEach any vs ws
      → AllZip (Passes test) (outside_each vs) (outside_each ws) → AgreeEach test vs ws
  from_shapes test none none h k = tt
  from_shapes test (more v vs) (more w ws) h k =
      let parts = zip_part (Passes test) (outside v) (outside w) (outside_each vs) (outside_each ws) (same_count any v w h.0) k in
      (from_shape test v w h.0 parts.0, from_shapes test vs ws h.1 parts.1)
  from_shapes test _ _ h k = absurd h

pub agreement_is_by_shapes : AgreementIsByShapes
agreement_is_by_shapes test vs ws = (to_shapes test vs ws, λ h. from_shapes test vs ws h.0 h.1)
