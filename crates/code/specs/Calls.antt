-- What the encoder and the weight of a word answer and leave, for every input. Their questions are 2, 3, 4, 5, 8, 9 and 16, then 10 for the encoder's
-- output, then 12; they take no check degree and no threshold, whatever the order has there.
-- Assumes nothing.
use Rattle.std.specs.Prelude.{List, [], ◌∷◌, ◌++◌, ℕ, ◌*◌, length}
use Rattle.lists.specs.Lists.{padded}
use Rattle.order.specs.Questions.{Question, first_no, room, below}
use Rattle.order.specs.Order.{Order, the_code, order_questions}
use Rattle.order.specs.Answer.{Answer, accepted, unless, unless_refused}
use Rattle.code.specs.Links.{steps_of}
use Rattle.code.specs.Weight.{weight, codeword}

unfoldable pub weigh_questions : Order → ℕ → List Question
weigh_questions o u = order_questions the_code o ++ (below o.N u ∷ [])

unfoldable pub weigh_call : Order → ℕ → Answer ℕ
weigh_call o u = unless (first_no (weigh_questions o u)) (accepted (weight o u))

unfoldable pub encode_questions : Order → ℕ → ℕ → List Question
encode_questions o u outputs = order_questions the_code o ++ (room (length o.generators * steps_of o) outputs ∷ below o.N u ∷ [])

-- the lent output is left with the codeword and zeros after it, or as it was where the call is refused
unfoldable pub encode_call : Order → ℕ → List ℕ → Answer (Unit {0}) × List ℕ
encode_call o u output =
    unless_refused (first_no (encode_questions o u (length output))) output (accepted tt, padded (length output) 0 (codeword o u))
