-- the lines of edges, written one after another: `lines::write_edges`, `orders::Found::write`
pub mod SeenLines
-- what is answered to moments: `orders::order_on`, `orders::order`
pub mod Answered
