pub mod HeadedClauses
