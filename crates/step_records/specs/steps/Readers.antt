-- How far a text is read, and what is built from it.
use Rattle.std.specs.Prelude.{ℕ, refl}
use Rattle.std.specs.Coded.{Coded, code_by, coded×, coded_ℕ}
use Rattle.step_lexer.specs.Reading.{Reading}
use Rattle.step_records.specs.steps.Building.{Building, coded_building}

-- the number of bytes that are read, and what is built so far over the text
pub record Progress : Type 0 where
  pub place : ℕ
  pub built : Building

abbrev pub coded_progress : Coded Progress
coded_progress = code_by (ℕ × Building) (coded× coded_ℕ coded_building) (λ p. (p.place, p.built))
    (λ q. record { place = q.0; built = q.1 }) (λ _. refl)

-- how far the text is read
abbrev pub reading : Progress → Reading
reading p = record { text = p.built.text; place = p.place }
