-- The window that the encoder keeps from step to step (a model): its state, and the bits of the word that are still to come.
-- `proofs/Windows.antt` proves that the state kept is that of the definition (`kept_window`).
-- Assumes nothing.
use Rattle.std.specs.Prelude.{ℕ, ◌-◌, ◌/◌, ◌^◌, ◌≡◌, cond}
use Rattle.poly.specs.Word.{number}
use Rattle.order.specs.Order.{Order}
use Rattle.code.specs.Links.{terminated}
use Rattle.code.specs.Trellis.{walk}
use Rattle.code.specs.declared.window.Window.{Window}

-- w is w₀ so many steps later: that many bits of the word moved in, and the oldest inputs out
pub record Later (w₀ : Window) (t : ℕ) (w : Window) : Type 0 where
  pub memory : w.memory ≡ w₀.memory
  pub state : w.state ≡ walk w₀.memory t w₀.state (number w₀.rest)
  pub rest : number w.rest ≡ number w₀.rest / 2 ^ t

-- what a word's last v bits leave, moved in from state 0
unfoldable pub last_state : ℕ → ℕ → ℕ → ℕ
last_state v N u = walk v v 0 (u / 2 ^ (N - v))

-- the state that a word begins in: 0, or where the link bites its tail what the last v bits leave
unfoldable pub first_state : Order → ℕ → ℕ
first_state o u = cond (terminated o) 0 (last_state o.v o.N u)

-- w is the window before the first step of word u
pub record First (o : Order) (u : ℕ) (w : Window) : Type 0 where
  pub memory : w.memory ≡ o.v
  pub state : w.state ≡ first_state o u
  pub rest : number w.rest ≡ u
