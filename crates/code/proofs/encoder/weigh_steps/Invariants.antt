-- The invariant: the window k steps on, and what these steps weigh.
use mathlib.Core.Path.{◌≡◌}
use mathlib.Core.List.{List}
use Prim.Native.Nat.{ℕ, ◌*◌, ◌≤◌}
use Rattle.lists.specs.Lists.{sum}
use Rattle.poly.specs.Word.{number}
use Rattle.code.specs.Model.Window.{Later}
use Rattle.code.specs.declared.window.Window.{Window}
use Rattle.code.proofs.Steps.{weighs}
use Rattle.code.proofs.encoder.weigh_steps.Given as goal

pub record Weighing (gs : List ℕ) (steps : ℕ) (w₀ w : Window) (total k : ℕ) : Type 0 where
  pub window : Later w₀ k w
  pub small : total ≤ 4 * k
  pub summed : total ≡ sum k (weighs gs w₀.memory steps (number w₀.rest))

abbrev pub invariant-loop : goal.invariant-loop
invariant-loop l = Weighing l.generators l.steps l.initial.window l.window l.total l.counter
