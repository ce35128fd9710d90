use Rattle.outlook.proofs.load_orders.+order_of.Given as goal

abbrev pub decreases-order_of : goal.decreases-order_of
decreases-order_of l = l.set
