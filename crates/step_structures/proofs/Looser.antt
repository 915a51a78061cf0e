-- What fits some rules fits looser ones.
use Rattle.std.proofs.Common.{◌≡◌, ℕ, ◌+◌, ◌≤◌, Bool, true, false, List, [], ◌∷◌, ◌++◌, refl, arith}
use Rattle.step_structures.specs.Trees.{Tree, leaf, typed, group, Trees, none, one, Record, Form, internal, external, ExchangeRow}
use Rattle.step_structures.specs.Fits.{StructureRules, the_rules, FitsTree, FitsTrees, FitsRecord, FitsPartialRecords, FitsForm, FitsRows, FitsRecords, FitsHeader, IsHeader, Where, has_keyword, has_name}
use Rattle.step_structures.specs.Texts.{more_levels, more_parts, repeated, unheaded}

-- these rules ask for less
pub record IsLooser (a b : StructureRules) : Type 0 where
  pub levels : a.levels ≤ b.levels
  pub instances : a.instances ≤ b.instances
  pub sections : a.sections ≤ b.sections
  pub distinct : a.distinct ≡ false → b.distinct ≡ false
  pub headed : a.headed ≡ false → b.headed ≡ false

where_looser : (A : Type 0) → (p q : Bool) → (p ≡ false → q ≡ false) → Where p A → Where q A
where_looser A true true f h = h
where_looser A true false f h = tt
where_looser A false true f h = (let e : true ≡ false = f refl in absurd cc)
where_looser A false false f h = tt

module _ (a b : StructureRules) (l : IsLooser a b) where
  mutual
    pub looser_tree : (x : Tree) (n : ℕ) → FitsTree a n x → FitsTree b n x
    looser_tree (leaf w) n h = h
    looser_tree (typed text x) n h = (omega (arith, h.0, l.levels), looser_tree x (n + 1) h.1)
    looser_tree (group xs) n h = (omega (arith, h.0, l.levels), looser_trees xs (n + 1) h.1)

    pub looser_trees : (xs : Trees) (n : ℕ) → FitsTrees a n xs → FitsTrees b n xs
    looser_trees none n h = tt
    looser_trees (one x xs) n h = (looser_tree x n h.0, looser_trees xs n h.1)

  pub looser_record : (p : Record) (n : ℕ) → FitsRecord a n p → FitsRecord b n p
  looser_record p n h = (omega (arith, h.0, l.levels), looser_trees p.values (n + 1) h.1)

  pub looser_partial_records : (ps : List Record) (before : List (List ℕ)) → FitsPartialRecords a before ps
      → FitsPartialRecords b before ps
  looser_partial_records [] before h = tt
  looser_partial_records (p ∷ ps) before h = (
    where_looser (has_keyword p.keyword before ≡ false) a.distinct b.distinct l.distinct
        h.0,
    looser_record p 1 h.1,
    looser_partial_records ps (before ++ p.keyword ∷ []) h.2,
  )

  pub looser_form : (x : Form) → FitsForm a x → FitsForm b x
  looser_form (internal p) h = looser_record p 0 h
  looser_form (external ps) h = (omega (arith, h.0, l.levels), h.1, looser_partial_records ps [] h.2)

  pub looser_rows : (rs : List ExchangeRow) (before : List ℕ) → FitsRows a before rs → FitsRows b before rs
  looser_rows [] before h = tt
  looser_rows (r ∷ rs) before h = (
    where_looser (has_name r.name before ≡ false) a.distinct b.distinct l.distinct h.0,
    omega (arith, h.1, l.instances),
    looser_form r.form h.2,
    looser_rows rs (before ++ r.name ∷ []) h.3,
  )

  pub looser_records : (ps : List Record) → FitsRecords a ps → FitsRecords b ps
  looser_records [] h = tt
  looser_records (p ∷ ps) h = (looser_record p 0 h.0, looser_records ps h.1)

  pub looser_header : (ps : List Record) → FitsHeader a ps → FitsHeader b ps
  looser_header ps h = (looser_records ps h.0, h.1, where_looser (IsHeader ps) a.headed b.headed l.headed h.2)

pub levels_looser : IsLooser the_rules more_levels
levels_looser = record { levels = omega arith; instances = omega arith; sections = omega arith; distinct = (λ e. e); headed = (λ e. e) }

pub parts_looser : IsLooser the_rules more_parts
parts_looser = record { levels = omega arith; instances = omega arith; sections = omega arith; distinct = (λ e. e); headed = (λ e. e) }

pub repeated_looser : IsLooser the_rules repeated
repeated_looser = record { levels = omega arith; instances = omega arith; sections = omega arith; distinct = (λ e. refl); headed = (λ e. e) }

pub unheaded_looser : IsLooser the_rules unheaded
unheaded_looser = record { levels = omega arith; instances = omega arith; sections = omega arith; distinct = (λ e. e); headed = (λ e. refl) }
