-- What an order is that its questions pass, by name: what a function may assume that requires an accepted order and does not ask again.
-- `proofs/Asked.antt` proves that it follows from the questions (`accepted-order`).
-- Assumes nothing.
use Rattle.std.specs.Prelude.{ℕ, ◌≤◌, ◌<◌, ◌≡◌, true, false, List, length}
use Rattle.lists.specs.Lists.{all, any}
use Rattle.gcd.specs.SharedFactor.{share_factor}
use Rattle.order.specs.Questions.{highest_version, longest_word, in_range, has_bit}
use Rattle.order.specs.Order.{Order}
use Rattle.order.specs.declared.questions.Takes.{Takes}

-- questions 2, 3, 4, 5, 8, 9 and 16, of what they are about: whatever else an order has, its code is accepted or not
pub record CodeAccepted (version v N : ℕ) (generators : List ℕ) : Type 0 where
  pub some_version : 1 ≤ version
  pub known_version : version ≤ highest_version
  pub some_generators : 2 ≤ length generators
  pub few_generators : length generators ≤ 4
  pub some_memory : 1 ≤ v
  pub small_memory : v ≤ 8
  pub long_enough : v ≤ N
  pub at_most_128 : N ≤ longest_word
  pub is_in_range : all (in_range v) generators ≡ true
  pub one_has_bit_v : any (has_bit v) generators ≡ true
  pub one_has_bit_0 : any (has_bit 0) generators ≡ true
  pub shares_no_factor : share_factor generators ≡ false

abbrev pub AcceptedCode : Order → Type 0
AcceptedCode o = CodeAccepted o.version o.v o.N o.generators

-- 6
pub record AcceptedDegree (o : Order) : Type 0 where
  pub some_degree : 1 ≤ o.m
  pub at_most_12 : o.m ≤ 12
  pub below_length : o.m < o.N

-- 7
pub record AcceptedThreshold (o : Order) : Type 0 where
  pub some_weight : 1 ≤ o.d
  pub at_most_64 : o.d ≤ 64

-- the order of a call that takes a threshold, and of one that takes everything
pub record Accepted (o : Order) : Type 0 where
  pub code : AcceptedCode o
  pub threshold : AcceptedThreshold o

pub record AcceptedWhole (o : Order) : Type 0 where
  pub order : Accepted o
  pub degree : AcceptedDegree o

-- by what a call takes
pub record AcceptedAs (takes : Takes) (o : Order) : Type 0 where
  pub code : AcceptedCode o
  pub degree : takes.degree ≡ true → AcceptedDegree o
  pub threshold : takes.threshold ≡ true → AcceptedThreshold o
