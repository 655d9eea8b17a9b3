pub mod Steps
use Rattle.chains.proofs.list_state.Given as goal
