-- How the sessions of a connection end with it, one after the other.
use Rattle.std.proofs.Common.{ℕ, zero, suc}
use Rattle.amqp_endpoint_linking.specs.Ending.{FinishesFirst, LeavesFirst}
use Rattle.amqp_endpoint_linking.specs.Linking.{Links, Sessions}
use Rattle.amqp_endpoint_conversation.specs.Clearing.{ClearsFirst}
use Rattle.amqp_endpoint_conversation.proofs.Clearing.{finished-clears, left-clears, nothing-cleared, one-more}

pub left-first : (number : ℕ) (old : Sessions) (links : Links) (new : Sessions) (links_new : Links)
    → LeavesFirst number old links new links_new → ClearsFirst number old new
left-first zero old links new links_new is = nothing-cleared old new is.0
left-first (suc number) old links new links_new (mid, links_mid, first, one) =
    one-more number old mid new (left-first number old links mid links_mid first)
    (left-clears mid number new one.left one.sent)

pub finished-first : (number : ℕ) (old : Sessions) (links : Links) (new : Sessions) (links_new : Links)
    → FinishesFirst number old links new links_new → ClearsFirst number old new
finished-first zero old links new links_new is = nothing-cleared old new is.0
finished-first (suc number) old links new links_new (mid, links_mid, first, one) =
    one-more number old mid new (finished-first number old links mid links_mid first)
    (finished-clears mid number new one.stood one.finished)
