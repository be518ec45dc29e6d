-- The link with a number that stands in its session.
use Rattle.std.proofs.Common.{◌≡◌, ℕ, Option, Some, None, IsSome, refl}
use Rattle.amqp_session_types.specs.declared.handles.OutputHandle.{OutputHandle}
use Rattle.amqp_endpoint_linking.specs.Linking.{Link, Talk}
use Rattle.amqp_endpoint_link_hearing.specs.Naming.{link_of}

-- the link that is there, with its number
pub record IsNumbered (talk : Talk) (session : ℕ) (handle : OutputHandle) (number : ℕ) : Type 0 where
  pub link : Link
  pub there : link_of talk session handle ≡ Some link
  pub is : number ≡ link.number

some-of : (o : Option Link) (number : ℕ) → IsSome o → ((link : Link) → o ≡ Some link → number ≡ link.number)
    → (link : Link) × (o ≡ Some link) × (number ≡ link.number)
some-of None number is named = absurd cc
some-of (Some link) number is named = (link, refl, named link refl)

pub numbered : (talk : Talk) (session : ℕ) (handle : OutputHandle) (number : ℕ) → IsSome (link_of talk session handle)
    → ((link : Link) → link_of talk session handle ≡ Some link → number ≡ link.number)
    → IsNumbered talk session handle number
numbered talk session handle number is named =
    let (link, there, same) = some-of (link_of talk session handle) number is named in
    record { link = link; there = there; is = same }
