-- What stands in a column stays as the column grows, and cells that are moved to its end say there what they said.
use Rattle.std.proofs.Common.{◌≡◌, ◌<◌, ◌≤◌, ℕ, zero, suc, List, [], ◌∷◌, ◌++◌, length, Option, Some, None, refl, sym, ◌∙◌, ap, subst, arith, slice_get, length-append, append_assoc, append-nil, ◌⊎◌, inl, inr}
use Rattle.parsing.specs.Nodes.{Nodes, AsksChildrenAlone, run, said_or, said_within, said_at, said_by, IsColumn, AreBefore, GoesOn}
use Rattle.parsing.proofs.Levels.{said}

module _ {C : Type 0} where
  got_front : (old rest : List C) (i : ℕ) → i < length old → slice_get (old ++ rest) i ≡ slice_get old i
  got_front [] rest i l = absurd (omega (arith, l))
  got_front (x ∷ xs) rest zero l = refl
  got_front (x ∷ xs) rest (suc i) l = got_front xs rest i (omega (arith, l))

  got_last : (xs : List C) (c : C) → slice_get (xs ++ c ∷ []) (length xs) ≡ Some c
  got_last [] c = refl
  got_last (x ∷ xs) c = got_last xs c

  got_pushed : (xs : List C) (c : C) (i : ℕ) (d : C) → slice_get (xs ++ c ∷ []) i ≡ Some d → (slice_get xs i ≡ Some d)
      ⊎ ((i ≡ length xs) × (c ≡ d))
  got_pushed [] c zero d e = inr (refl, cc)
  got_pushed [] c (suc i) d e = absurd (cc)
  got_pushed (x ∷ xs) c zero d e = inl e
  got_pushed (x ∷ xs) c (suc i) d e = go (got_pushed xs c i d e)
    where
      go : (slice_get xs i ≡ Some d) ⊎ ((i ≡ length xs) × (c ≡ d)) → (slice_get xs i ≡ Some d)
          ⊎ ((suc i ≡ suc (length xs)) × (c ≡ d))
      go (inl f) = inl f
      go (inr f) = inr (ap suc f.0, f.1)

  longer : (xs : List C) (c : C) → length (xs ++ c ∷ []) ≡ suc (length xs)
  longer xs c = let e = length-append xs (c ∷ []) in omega (arith, e)

  regroup : (xs : List C) (c : C) (cs : List C) → (xs ++ c ∷ []) ++ cs ≡ xs ++ c ∷ cs
  regroup xs c cs = append_assoc xs (c ∷ []) cs

module _ {C T : Type 0} (nodes : Nodes C T) (looks : AsksChildrenAlone nodes) where
  module _ (old rest : List C) (h : IsColumn nodes old) where
    or_same : (f g : ℕ → T) (i : ℕ) (o : Option C) → slice_get old i ≡ o → ((k : ℕ) → k < i → f k ≡ g k)
        → said_or nodes f o ≡ said_or nodes g o
    or_same f g i None e a = refl
    or_same f g i (Some c) e a = let l = h i c e in looks f g c (λ k b. a k (omega (arith, l, b)))

    within_same : (depth i : ℕ) → i < length old
        → said_within nodes depth (old ++ rest) i ≡ said_within nodes depth old i
    within_same zero i l = refl
    within_same (suc d) i l =
        ap (said_or nodes (said_within nodes d (old ++ rest))) (got_front old rest i l)
        ∙ or_same (said_within nodes d (old ++ rest)) (said_within nodes d old) i (slice_get old i) refl
        (λ k b. within_same d k (omega (arith, l, b)))

    -- what was said at a place is said there
    pub place_same : (i : ℕ) → i < length old → said_at nodes (old ++ rest) i ≡ said_at nodes old i
    place_same i l = within_same (suc i) i l

    -- a cell with its children in the column says what it said
    pub cell_same : (c : C) → nodes.reach c ≤ length old
        → nodes.says (said_at nodes (old ++ rest)) c ≡ nodes.says (said_at nodes old) c
    cell_same c b = looks (said_at nodes (old ++ rest)) (said_at nodes old) c
        (λ k l. place_same k (omega (arith, b, l)))

    -- cells with their children in the column say what they said
    pub said_same : (cs : List C) → AreBefore nodes (length old) cs
        → said_by nodes (old ++ rest) cs ≡ said_by nodes old cs
    said_same [] b = refl
    said_same (c ∷ cs) b = λ d. cell_same c b.0 d ∷ said_same cs b.1 d

  pub all_later : (i j : ℕ) (cs : List C) → i ≤ j → AreBefore nodes i cs → AreBefore nodes j cs
  all_later i j [] l b = tt
  all_later i j (c ∷ cs) l b = let f = b.0 in (omega (arith, l, f), all_later i j cs l b.1)

  pub pushed_column : (xs : List C) (c : C) → IsColumn nodes xs → nodes.reach c ≤ length xs
      → IsColumn nodes (xs ++ c ∷ [])
  pushed_column xs c h b i d e = go (got_pushed xs c i d e)
    where
      go : (slice_get xs i ≡ Some d) ⊎ ((i ≡ length xs) × (c ≡ d)) → nodes.reach d ≤ i
      go (inl f) = h i d f
      go (inr f) = subst (λ j. nodes.reach d ≤ j) (sym f.0) (subst (λ x. nodes.reach x ≤ length xs) f.1 b)

  pub pushed_place : (xs : List C) (c : C) → IsColumn nodes xs → nodes.reach c ≤ length xs
      → said_at nodes (xs ++ c ∷ []) (length xs) ≡ nodes.says (said_at nodes xs) c
  pushed_place xs c h b =
      said nodes looks (xs ++ c ∷ []) (pushed_column xs c h b) (length xs) c (got_last xs c)
      ∙ cell_same xs (c ∷ []) h c b

  pub goes_on : (old cs : List C) → IsColumn nodes old → AreBefore nodes (length old) cs → GoesOn nodes old cs
  goes_on old [] h b = record
      { column = subst (IsColumn nodes) (sym (append-nil old)) h; stays = place_same old [] h; moved = refl }
  goes_on old (c ∷ cs) h b =
      let n : length (old ++ c ∷ []) ≡ suc (length old) = longer old c in
      let next : IsColumn nodes (old ++ c ∷ []) = pushed_column old c h b.0 in
      let later : AreBefore nodes (length (old ++ c ∷ [])) cs =
      all_later (length old) (length (old ++ c ∷ [])) cs (omega (arith, n)) b.1 in
      let rest : GoesOn nodes (old ++ c ∷ []) cs = goes_on (old ++ c ∷ []) cs next later in
      let here : said_at nodes ((old ++ c ∷ []) ++ cs) (length old) ≡ nodes.says (said_at nodes old) c =
      place_same (old ++ c ∷ []) cs next (length old) (omega (arith, n)) ∙ pushed_place old c h b.0 in
      let others : run (said_at nodes ((old ++ c ∷ []) ++ cs)) (suc (length old)) (length cs) ≡ said_by nodes old cs =
      ap (λ k. run (said_at nodes ((old ++ c ∷ []) ++ cs)) k (length cs)) (sym n) ∙ rest.moved
      ∙ said_same old (c ∷ []) h cs b.1 in
      record {
        column = subst (IsColumn nodes) (regroup old c cs) rest.column;
        stays = place_same old (c ∷ cs) h;
        moved = subst (λ l. run (said_at nodes l) (length old) (suc (length cs)) ≡ nodes.says (said_at nodes old) c
            ∷ said_by nodes old cs) (regroup old c cs) (λ d. here d ∷ others d);
      }
