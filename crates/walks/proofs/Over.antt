-- What the calls and the loops of a walk mean.
--     over             the tables of an environment γ.        On       a word by which the steps of a walk know them: `𝓣`, bound at the head of the walk.        tabled 𝓣     these tables
-- Assumes nothing.
use seplogic.Ra.Ura.{Ura}
use prog.Model.{Model}
use prog.Routine.{Env as Routines}
use prog.Wp.{Tables}
use types.Logic.{Logic}
use contract.Running.{Running, tables, tables_of}

module _ {M : Type 1} {𝓤 : Ura M} (𝓛 : Logic 𝓤) (𝓜 : Model 𝓤 𝓛.H) (𝓡 : Running 𝓤 𝓛.H 𝓜) (γ : Routines) where
  open 𝓛 use {H}

  abbrev pub over : Tables 𝓤 H
  over = tables_of 𝓤 H 𝓜 (tables 𝓤 H 𝓜 𝓡 γ)

  pub data On : Type 0 where
    on : On

abbrev pub tabled : {M : Type 1} {𝓤 : Ura M} {𝓛 : Logic 𝓤} {𝓜 : Model 𝓤 𝓛.H} {𝓡 : Running 𝓤 𝓛.H 𝓜} {γ : Routines} → On 𝓛 𝓜 𝓡 γ → Tables 𝓤 𝓛.H
tabled {𝓤 = 𝓤} {𝓛} {𝓜} {𝓡} {γ} _ = over 𝓛 𝓜 𝓡 γ
