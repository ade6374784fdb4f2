use Rattle.vme_samples.proofs.Joined.{joined_order, joined_orders, still_joins}
use Rattle.vme_samples.proofs.laws.joined_samples_have_the_orders_of_both.Goals as goal

pub returns : goal.returns
returns c = record {
  order = λ earlier later first second before here a b. joined_order earlier later first before a second here b;
  orders = λ samples newer earlier later changes o. joined_orders earlier later samples newer changes o;
  joining = λ skew larger earlier later moment more some joins. still_joins skew larger earlier later moment more some joins;
}
